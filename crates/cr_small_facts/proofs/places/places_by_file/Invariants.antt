use Rattle.std.proofs.Common.{◌≡◌, length, map}
use Rattle.cr_small_facts.proofs.Lists.{AreFiled}
use Rattle.cr_small_facts.proofs.places.places_by_file.Given as goal

abbrev pub invariant-loop-fact : goal.invariant-loop-fact
invariant-loop-fact l =
    (length l.places.items ≡ l.files) × AreFiled l.key l.initial.fact-iterator l.fact-iterator (map (λ v. v.items) l.places.items)
