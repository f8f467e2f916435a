use Rattle.std.proofs.Common.{◌≤◌, ◌-◌, length}
use Rattle.cr_groups.specs.Adding.{Adds, OfFirst}
use Rattle.cr_conflicts.specs.Members.{MeetingAdds}
use Rattle.cr_conflicts.proofs.members.add_meetings.Given as goal

abbrev pub invariant-each : goal.invariant-each
invariant-each l = (l.i ≤ length l.members) × Adds l.initial.facts l.facts (OfFirst (MeetingAdds l.unit l.table l.tokens l.rows l.records l.members l.names.old l.names.new) l.members l.i)

abbrev pub decreases-each : goal.decreases-each
decreases-each l = length l.members - l.i
