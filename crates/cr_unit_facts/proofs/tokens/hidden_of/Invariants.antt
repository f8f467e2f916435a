use Rattle.std.proofs.Common.{◌≤◌, ◌-◌, length}
use Rattle.cr_groups.specs.Firsts.{AreFirsts}
use Rattle.cr_unit_facts.specs.Telling.{itself}
use Rattle.cr_unit_facts.proofs.tokens.hidden_of.Given as goal

abbrev pub invariant-each : goal.invariant-each
invariant-each l = (l.i ≤ length l.hidden) × AreFirsts (itself) l.hidden l.firsts.entries l.i

abbrev pub decreases-each : goal.decreases-each
decreases-each l = length l.hidden - l.i
