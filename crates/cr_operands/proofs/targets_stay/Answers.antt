use Rattle.cr_operands.proofs.Changing.{targets_stay}
use Rattle.cr_operands.proofs.targets_stay.Goals as goal

pub returns : goal.returns
returns c = targets_stay
