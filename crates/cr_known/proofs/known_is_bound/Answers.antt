use Rattle.cr_known.proofs.Walking.{known_is_bound}
use Rattle.cr_known.proofs.known_is_bound.Goals as goal

pub returns : goal.returns
returns c = known_is_bound
