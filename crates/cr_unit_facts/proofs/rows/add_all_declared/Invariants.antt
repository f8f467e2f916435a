use Rattle.std.proofs.Common.{◌≤◌, ◌-◌, length}
use Rattle.cr_groups.specs.Adding.{Adds, OfFirst}
use Rattle.cr_unit_facts.specs.Telling.{DeclaredTells}
use Rattle.cr_unit_facts.proofs.rows.add_all_declared.Given as goal

abbrev pub invariant-each : goal.invariant-each
invariant-each l = (l.i ≤ length l.rows) × Adds l.initial.facts l.facts (OfFirst (DeclaredTells l.tokens l.groups.entries l.names.old l.names.new l.linked) l.rows l.i)

abbrev pub decreases-each : goal.decreases-each
decreases-each l = length l.rows - l.i
