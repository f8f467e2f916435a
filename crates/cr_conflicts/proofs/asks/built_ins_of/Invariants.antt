use Rattle.std.proofs.Common.{◌≤◌, ◌-◌, length}
use Rattle.cr_groups.specs.Firsts.{AreFirsts}
use Rattle.cr_conflicts.specs.Asks.{built_in_token}
use Rattle.cr_conflicts.proofs.asks.built_ins_of.Given as goal

abbrev pub invariant-each : goal.invariant-each
invariant-each l = (l.i ≤ length l.uses) × AreFirsts (built_in_token l.tokens l.names.old l.names.new) l.uses l.firsts.entries l.i

abbrev pub decreases-each : goal.decreases-each
decreases-each l = length l.uses - l.i
