use Rattle.cr_known.proofs.Ending.{ends_by_saved}
use Rattle.cr_known.proofs.ends_go_by_saved.Goals as goal

pub returns : goal.returns
returns c = ends_by_saved
