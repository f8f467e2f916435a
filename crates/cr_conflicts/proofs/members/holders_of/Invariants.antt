use Rattle.std.proofs.Common.{◌≤◌, ◌-◌, length}
use Rattle.cr_groups.specs.Firsts.{AreFirsts}
use Rattle.cr_conflicts.specs.Members.{holder_of}
use Rattle.cr_conflicts.proofs.members.holders_of.Given as goal

abbrev pub invariant-each : goal.invariant-each
invariant-each l = (l.i ≤ length l.members) × AreFirsts (holder_of l.tokens l.name) l.members l.firsts.entries l.i

abbrev pub decreases-each : goal.decreases-each
decreases-each l = length l.members - l.i
