use Rattle.std.proofs.Common.{◌≡◌, ◌≤◌, take}
use Rattle.cr_scope.specs.Declarations.{numbers_at}
use Rattle.cr_scope.specs.Kept.{depths_seen}
use Rattle.cr_scope.proofs.Scopes.last_at.Given as goal

abbrev pub invariant-loop-i : goal.invariant-loop-i
invariant-loop-i l =
    (l.i ≤ l.end)
    × (numbers_at l.depth 0 (take l.end (depths_seen l.self l.space l.name)) ≡ numbers_at l.depth 0 (take l.i (depths_seen l.self l.space l.name)))
