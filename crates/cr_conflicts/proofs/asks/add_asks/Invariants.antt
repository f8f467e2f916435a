use Rattle.std.proofs.Common.{◌≤◌, ◌-◌, length}
use Rattle.cr_groups.specs.Adding.{Adds, OfFirst}
use Rattle.cr_conflicts.specs.Asks.{AskAdds}
use Rattle.cr_conflicts.proofs.asks.add_asks.Given as goal

abbrev pub invariant-each : goal.invariant-each
invariant-each l = (l.i ≤ length l.uses) × Adds l.initial.facts l.facts (OfFirst (AskAdds l.tokens l.paths l.rows l.groups.entries l.names.old l.names.new l.uses) l.uses l.i)

abbrev pub decreases-each : goal.decreases-each
decreases-each l = length l.uses - l.i
