use Rattle.std.proofs.Common.{◌≤◌, ◌-◌, length}
use Rattle.cr_groups.specs.Adding.{Adds}
use Rattle.cr_conflicts.specs.Pairs.{find_least, FirstPairsAdd}
use Rattle.cr_conflicts.proofs.pairs.add_pairs.Given as goal

abbrev pub invariant-each : goal.invariant-each
invariant-each l = (l.i ≤ length l.rows) × Adds l.initial.facts l.facts (FirstPairsAdd l.names.old l.names.new l.tokens l.rows l.groups.entries (find_least l.leasts.entries) l.i)

abbrev pub decreases-each : goal.decreases-each
decreases-each l = length l.rows - l.i
