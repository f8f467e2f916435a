use Rattle.cr_operands.proofs.Changing.{operands_stay}
use Rattle.cr_operands.proofs.operands_stay.Goals as goal

pub returns : goal.returns
returns c = operands_stay
