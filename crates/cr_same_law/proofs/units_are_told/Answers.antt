use Rattle.cr_same_law.proofs.Told.{units_are_told}
use Rattle.cr_same_law.proofs.units_are_told.Goals as goal

pub returns : goal.returns
returns c = units_are_told c.lookup_means.ensures
