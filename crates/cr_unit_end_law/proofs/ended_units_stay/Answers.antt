use Rattle.cr_unit_end_law.proofs.Stays.{stays}
use Rattle.cr_unit_end_law.proofs.ended_units_stay.Goals as goal

pub returns : goal.returns
returns c files more u old new end agrees h is = stays c.preprocessing_goes_on.ensures files more u old new agrees end h is
