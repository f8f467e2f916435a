use Rattle.std.proofs.Common.{◌≤◌, ◌-◌, length}
use Rattle.cr_groups.specs.Adding.{Adds, OfFirst}
use Rattle.cr_unit_facts.specs.Telling.{MemberTells}
use Rattle.cr_unit_facts.proofs.members.add_all_members.Given as goal

abbrev pub invariant-each : goal.invariant-each
invariant-each l = (l.i ≤ length l.members) × Adds l.initial.facts l.facts (OfFirst (MemberTells l.unit l.table l.tokens l.rows l.records l.names.old l.names.new) l.members l.i)

abbrev pub decreases-each : goal.decreases-each
decreases-each l = length l.members - l.i
