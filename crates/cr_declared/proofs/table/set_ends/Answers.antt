use Rattle.cr_declared.proofs.Tables.{found_after}
use Rattle.cr_declared.proofs.table.set_ends.Goals as goal

pub returns : goal.returns
returns c = found_after _ _ _ _ c.in-Ok.ensures.updates.0
