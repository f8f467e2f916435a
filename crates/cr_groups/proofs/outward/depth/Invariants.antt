use Rattle.std.proofs.Common.{◌≡◌, ◌<◌, ◌≤◌, ◌+◌, length}
use Rattle.cr_paths.specs.Paths.{path_at}
use Rattle.cr_groups.proofs.outward.depth.Given as goal

abbrev pub invariant-outward : goal.invariant-outward
invariant-outward l = (l.at < length l.paths) × (l.deep + length (path_at l.paths l.at) ≡ length (path_at l.paths l.place)) × (l.deep + l.at ≤ l.place)

abbrev pub decreases-outward : goal.decreases-outward
decreases-outward l = l.at
