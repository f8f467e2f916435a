use Rattle.std.proofs.Common.{◌+◌}
use Rattle.cr_expand.specs.HideSets.{set_at}
use Rattle.cr_expand.specs.HideForks.{IsFork}
use Rattle.cr_expand.proofs.hide_sets.HideSets.fork.Given as goal

abbrev pub invariant-loop-fork : goal.invariant-loop-fork
invariant-loop-fork l = IsFork l.self (set_at l.self l.fn.set.0) (set_at l.self l.fn.other.0) l.fork.at.0 l.fork.other.0 l.fork.names.items l.fork.others.keys

abbrev pub decreases-loop-fork : goal.decreases-loop-fork
decreases-loop-fork l = l.fork.at.0 + l.fork.other.0
