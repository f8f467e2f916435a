use Rattle.std.proofs.Common.{◌≡◌, ◌≤◌, ◌<◌, length, drop}
use Rattle.std.specs.Prelude.{IfSome}
use Rattle.cr_scope.specs.Declarations.{last_deepest}
use Rattle.cr_scope.specs.Kept.{depths_seen}
use Rattle.cr_scope.proofs.Scopes.lookup.Given as goal

abbrev pub invariant-loop-i : goal.invariant-loop-i
invariant-loop-i l = record {
  best : l.best ≡ last_deepest l.i (drop l.i (depths_seen l.self l.space l.name));
  given : IfSome l.best (λ b. b.0 < length l.self.entries);
  within : l.i ≤ length l.self.entries;
}
