-- Tests over lists that are seen through a function.
use Rattle.std.proofs.Common.{◌≡◌, List, [], ◌∷◌, map, Bool, refl, ap}
use Rattle.std.specs.Prelude.{◌||◌}
use Rattle.std.specs.List.{list_any}

module _ {V X : Type 0} (p : X → Bool) (f : V → X) where
  pub list_any-map : (ks : List V) → list_any p (map f ks) ≡ list_any (λ k. p (f k)) ks
  list_any-map [] = refl
  list_any-map (k ∷ ks) = ap (λ b. p (f k) || b) (list_any-map ks)
