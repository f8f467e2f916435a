use Rattle.cr_groups.proofs.Tables.{found_after}
use Rattle.cr_conflicts.proofs.leasts.put_least.Goals as goal

pub returns : goal.returns
returns c = found_after _ _ _ _ c.in_ok-insert.ensures.updates.0
