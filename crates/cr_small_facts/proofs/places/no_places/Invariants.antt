use Rattle.std.proofs.Common.{◌≡◌, ℕ, List, [], Some, length, map, slice_get}
use Rattle.cr_small_facts.proofs.places.no_places.Given as goal

abbrev pub invariant-loop : goal.invariant-loop
invariant-loop l =
    (length l.places.items ≡ l.counter) × ((n : ℕ) (offsets : List ℕ) → slice_get (map (λ v. v.items) l.places.items) n ≡ Some offsets → offsets ≡ [])
