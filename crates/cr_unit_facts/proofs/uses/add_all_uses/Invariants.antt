use Rattle.std.proofs.Common.{◌≤◌, ◌-◌, length}
use Rattle.cr_groups.specs.Adding.{Adds, OfFirst}
use Rattle.cr_unit_facts.specs.Telling.{UseTells}
use Rattle.cr_unit_facts.proofs.uses.add_all_uses.Given as goal

abbrev pub invariant-each : goal.invariant-each
invariant-each l = (l.i ≤ length l.uses) × Adds l.initial.facts l.facts (OfFirst (UseTells l.unit l.table l.tokens l.rows l.groups.entries l.records l.members l.old l.linked) l.uses l.i)

abbrev pub decreases-each : goal.decreases-each
decreases-each l = length l.uses - l.i
