use Rattle.cr_binding_law.proofs.AsksUsed.{asks_are_used}
use Rattle.cr_binding_law.proofs.asked_identifiers_are_used.Goals as goal

pub returns : goal.returns
returns c = asks_are_used
