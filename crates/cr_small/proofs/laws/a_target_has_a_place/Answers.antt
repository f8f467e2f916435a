use Rattle.cr_small.proofs.KeyLaws.{has-place}
use Rattle.cr_small.proofs.laws.a_target_has_a_place.Goals as goal

pub returns : goal.returns
returns c = has-place
