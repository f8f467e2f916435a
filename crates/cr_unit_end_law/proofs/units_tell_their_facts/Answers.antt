use Rattle.cr_unit_end_law.proofs.Told.{units_tell}
use Rattle.cr_unit_end_law.proofs.units_tell_their_facts.Goals as goal

pub returns : goal.returns
returns c = units_tell c.read_units_mean_their_tokens.ensures
