use Rattle.cr_keys_law.proofs.Spelled.{identifiers_are_spelled}
use Rattle.cr_keys_law.proofs.identifiers_are_spelled_as_what_they_mean.Goals as goal

pub returns : goal.returns
returns c = identifiers_are_spelled c.lookup_means.ensures
