use Rattle.std.proofs.Common.{◌≡◌, ◌≤◌, length}
use Rattle.cr_scope.specs.Kept.{depths_seen, rest_from}
use Rattle.cr_scope.proofs.Scopes.next_visible.Given as goal

abbrev pub invariant-loop-n : goal.invariant-loop-n
invariant-loop-n l =
    (l.end ≤ length l.self.entries)
    × (rest_from l.from l.before (depths_seen l.self l.space l.name) ≡ rest_from l.depth l.end (depths_seen l.self l.space l.name))

abbrev pub decreases-loop-n : goal.decreases-loop-n
decreases-loop-n l = l.depth
