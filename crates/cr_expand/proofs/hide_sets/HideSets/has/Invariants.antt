use Rattle.std.proofs.Common.{◌≡◌, ◌<◌, length}
use Rattle.cr_macros.specs.Definition.{has_name}
use Rattle.cr_expand.specs.HideSets.{set_at}
use Rattle.cr_expand.proofs.hide_sets.HideSets.has.Given as goal

abbrev pub invariant-loop-node : goal.invariant-loop-node
invariant-loop-node l =
    (l.at.0 < length l.self) × (has_name (set_at l.self l.at.0) l.name ≡ has_name (set_at l.self l.fn.set.0) l.name)

abbrev pub decreases-loop-node : goal.decreases-loop-node
decreases-loop-node l = l.at.0
