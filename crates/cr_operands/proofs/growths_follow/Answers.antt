use Rattle.cr_operands.proofs.Changing.{growths_follow}
use Rattle.cr_operands.proofs.growths_follow.Goals as goal

pub returns : goal.returns
returns c = growths_follow
