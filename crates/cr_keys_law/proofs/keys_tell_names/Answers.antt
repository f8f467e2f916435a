use Rattle.cr_keys_law.proofs.Telling.{keys_tell_names}
use Rattle.cr_keys_law.proofs.keys_tell_names.Goals as goal

pub returns : goal.returns
returns c = keys_tell_names c.identifiers_are_spelled_as_what_they_mean.ensures
