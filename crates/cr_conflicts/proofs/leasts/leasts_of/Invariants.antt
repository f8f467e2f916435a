use Rattle.std.proofs.Common.{◌≤◌, ◌-◌, length}
use Rattle.cr_conflicts.specs.Pairs.{find_least}
use Rattle.cr_conflicts.specs.Leasts.{AreLeastOf}
use Rattle.cr_conflicts.proofs.leasts.leasts_of.Given as goal

abbrev pub invariant-each : goal.invariant-each
invariant-each l = (l.i ≤ length l.rows) × AreLeastOf l.names.old l.names.new l.rows (find_least l.leasts.entries) l.i

abbrev pub decreases-each : goal.decreases-each
decreases-each l = length l.rows - l.i
