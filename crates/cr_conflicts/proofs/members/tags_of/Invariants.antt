use Rattle.std.proofs.Common.{◌≤◌, ◌-◌, length}
use Rattle.cr_groups.specs.Firsts.{AreFirsts}
use Rattle.cr_conflicts.specs.Members.{tag_token}
use Rattle.cr_conflicts.proofs.members.tags_of.Given as goal

abbrev pub invariant-each : goal.invariant-each
invariant-each l = (l.i ≤ length l.rows) × AreFirsts (tag_token) l.rows l.firsts.entries l.i

abbrev pub decreases-each : goal.decreases-each
decreases-each l = length l.rows - l.i
