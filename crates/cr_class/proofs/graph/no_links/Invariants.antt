use Rattle.std.proofs.Common.{◌≡◌, ℕ, [], length, map, get_or}
use Rattle.cr_class.proofs.graph.no_links.Given as goal

abbrev pub invariant-loop : goal.invariant-loop
invariant-loop l = (length l.links.items ≡ l.counter) × ((n : ℕ) → get_or (map (λ v. v.items) l.links.items) n [] ≡ [])
