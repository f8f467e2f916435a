use Rattle.cr_bound.proofs.Lenses.{saved_stays}
use Rattle.cr_bound.proofs.saved.saved_stay.Goals as goal

pub returns : goal.returns
returns c = saved_stays
