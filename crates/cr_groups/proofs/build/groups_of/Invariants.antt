use Rattle.std.proofs.Common.{◌≤◌, ◌-◌, length}
use Rattle.cr_groups.specs.Built.{IsBuilt}
use Rattle.cr_groups.proofs.build.groups_of.Given as goal

abbrev pub invariant-each : goal.invariant-each
invariant-each l = (l.i ≤ length l.rows) × IsBuilt l.unit l.table l.tokens l.rows l.names.old l.names.new l.groups.entries l.i

abbrev pub decreases-each : goal.decreases-each
decreases-each l = length l.rows - l.i
