use Rattle.cr_keeps.proofs.OneMeaning.{meanings_are_one}
use Rattle.cr_keeps.proofs.units_mean_one_thing.Goals as goal

pub returns : goal.returns
returns c = meanings_are_one c.units_are_one.ensures.trees
