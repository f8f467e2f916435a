use Rattle.cr_binding.proofs.Staying.{binding_stays}
use Rattle.cr_binding.proofs.binding_stays.Goals as goal

pub returns : goal.returns
returns c = binding_stays
