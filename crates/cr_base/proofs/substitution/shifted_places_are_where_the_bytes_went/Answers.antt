use Rattle.cr_base.proofs.Shifts.{shifts}
use Rattle.cr_base.proofs.substitution.shifted_places_are_where_the_bytes_went.Goals as goal

pub returns : goal.returns
returns c = shifts
