use Rattle.cr_names.proofs.Staying.{names_stay}
use Rattle.cr_names.proofs.names_stay.Goals as goal

pub returns : goal.returns
returns c = names_stay
