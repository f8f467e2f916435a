use Rattle.cr_binding.proofs.Done.{actions_are_done}
use Rattle.cr_binding.proofs.actions_are_done.Goals as goal

pub returns : goal.returns
returns c = actions_are_done
