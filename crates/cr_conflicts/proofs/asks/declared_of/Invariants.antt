use Rattle.std.proofs.Common.{◌≤◌, ◌-◌, length}
use Rattle.cr_groups.specs.Firsts.{AreFirsts}
use Rattle.cr_conflicts.specs.Asks.{token_of_name}
use Rattle.cr_conflicts.proofs.asks.declared_of.Given as goal

abbrev pub invariant-each : goal.invariant-each
invariant-each l = (l.i ≤ length l.rows) × AreFirsts (token_of_name l.name) l.rows l.firsts.entries l.i

abbrev pub decreases-each : goal.decreases-each
decreases-each l = length l.rows - l.i
