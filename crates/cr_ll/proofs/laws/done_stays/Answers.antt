use Rattle.cr_ll.proofs.Called.{done_stays}
use Rattle.cr_ll.proofs.laws.done_stays.Goals as goal

pub returns : goal.returns
returns c = done_stays
