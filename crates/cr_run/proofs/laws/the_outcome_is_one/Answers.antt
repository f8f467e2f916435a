use Rattle.cr_run.proofs.Ones.{outcome_one}
use Rattle.cr_run.proofs.laws.the_outcome_is_one.Goals as goal

pub returns : goal.returns
returns c = outcome_one c.denotations_are_one.ensures
