use Rattle.std.proofs.Common.{◌≤◌, ◌-◌, length}
use Rattle.cr_groups.specs.Firsts.{AreFirsts}
use Rattle.cr_unit_facts.specs.Telling.{own_token}
use Rattle.cr_unit_facts.proofs.members.owns_of.Given as goal

abbrev pub invariant-each : goal.invariant-each
invariant-each l = (l.i ≤ length l.members) × AreFirsts (own_token) l.members l.firsts.entries l.i

abbrev pub decreases-each : goal.decreases-each
decreases-each l = length l.members - l.i
