use Rattle.cr_binding.proofs.Growing.{binding_grows, fault_stays, scopes_are_told}
use Rattle.cr_binding.proofs.binding_grows.Goals as goal

pub returns-clause-lists : goal.returns-clause-lists
returns-clause-lists c = binding_grows

pub returns-clause-fault : goal.returns-clause-fault
returns-clause-fault c = fault_stays

pub returns-clause-scopes : goal.returns-clause-scopes
returns-clause-scopes c = scopes_are_told
