-- The least item of a list.
use Rattle.std.proofs.Common.{◌≡◌, ◌⊎◌, Bool, true, false, List, [], ◌∷◌, Option, Some, None, refl, sym, ap, ◌∙◌, subst, inl, inr, arith}
use Rattle.std.specs.Prelude.{if◌then◌else◌, ◌≢◌}
use Rattle.std.specs.List.{Contains}
use Rattle.std.specs.declared.cmp.Ordering.{Ordering}
use Rattle.std.specs.declared.cmp.Ordering.TheVariants.{Less, Equal, Greater}
use Rattle.std.specs.Ordering.{is_lt, ordering_reverse}
use Rattle.std.specs.Cmp.{IsTotalOrder, tied_itself}
use Rattle.cr_class.specs.Declarations.{lesser, least}
use Rattle.cr_class.proofs.Listed.{cons_cases, later}

module _ {T : Type 0} (R : T → T → Ordering) (order : IsTotalOrder R) where
  irreflexive : (x : T) → R x x ≢ Less
  irreflexive x e = let bad : Less ≡ Equal = sym e ∙ tied_itself order x in let no : ⊥ = cc in no

  chain : (b m p : T) → R b m ≢ Less → R m p ≢ Less → R b p ≢ Less
  chain b m p front behind less = by (R b m) refl
    where
      by : (r : Ordering) → R b m ≡ r → ⊥
      by Less e = front e
      by Equal e = behind (sym (order.congr b m p e) ∙ less)
      by Greater e = behind (order.trans m b p (order.antisymm m b ∙ ap ordering_reverse e) less)

  asymmetric : (x y : T) → R x y ≡ Less → R y x ≢ Less
  asymmetric x y one two = irreflexive x (order.trans x y x one two)

  -- the lesser one is above neither
  pub lesser_item : (best : Option T) (x : T) → R x (lesser R best x) ≢ Less
  lesser_item None x = irreflexive x
  lesser_item (Some b) x = by (R x b) refl
    where
      by : (r : Ordering) → R x b ≡ r → R x (if is_lt (R x b) then x else b) ≢ Less
      by Less e less = irreflexive x (sym (ap (λ r. R x (if is_lt r then x else b)) e) ∙ less)
      by Equal e less = let is = sym (ap (λ r. R x (if is_lt r then x else b)) e) ∙ less in let bad : Less ≡ Equal = sym is ∙ e in let no : ⊥ = cc in no
      by Greater e less = let is = sym (ap (λ r. R x (if is_lt r then x else b)) e) ∙ less in let bad : Less ≡ Greater = sym is ∙ e in let no : ⊥ = cc in no

  lesser_best : (b x : T) → R b (lesser R (Some b) x) ≢ Less
  lesser_best b x = by (R x b) refl
    where
      by : (r : Ordering) → R x b ≡ r → R b (if is_lt (R x b) then x else b) ≢ Less
      by Less e less = asymmetric x b e (sym (ap (λ r. R b (if is_lt r then x else b)) e) ∙ less)
      by Equal e less = irreflexive b (sym (ap (λ r. R b (if is_lt r then x else b)) e) ∙ less)
      by Greater e less = irreflexive b (sym (ap (λ r. R b (if is_lt r then x else b)) e) ∙ less)

  pub lesser_is : (best : Option T) (x p : T) → lesser R best x ≡ p → (best ≡ Some p) ⊎ (x ≡ p)
  lesser_is None x p e = inr e
  lesser_is (Some b) x p e = by (is_lt (R x b)) e
    where
      by : (t : Bool) → (if t then x else b) ≡ p → (Some b ≡ Some p) ⊎ (x ≡ p)
      by true e = inr e
      by false e = inl (ap Some e)

  -- none is below the least
  pub least_below : (best : Option T) (xs : List T) (p : T) → least R best xs ≡ Some p → ((b : T) → best ≡ Some b → R b p ≢ Less) × ((x : T) → Contains xs x → R x p ≢ Less)
  least_below best [] p e = (
    λ b is. (let same : Some b ≡ Some p = sym is ∙ e in let own : b ≡ p = cc in subst (λ q. R b q ≢ Less) own (irreflexive b)),
    λ x has. (let bad : ⊥ = omega (arith, has.1) in absurd bad),
  )
  least_below best (x ∷ xs) p e = step (least_below (Some (lesser R best x)) xs p e)
    where
      m : T
      m = lesser R best x

      by : ((b : T) → Some m ≡ Some b → R b p ≢ Less) × ((y : T) → Contains xs y → R y p ≢ Less) → (y : T) → (x ≡ y) ⊎ Contains xs y → R y p ≢ Less
      by rest y (inl same) = subst (λ z. R z p ≢ Less) same (chain x m p (lesser_item best x) (rest.0 m refl))
      by rest y (inr h) = rest.1 y h

      step : ((b : T) → Some m ≡ Some b → R b p ≢ Less) × ((y : T) → Contains xs y → R y p ≢ Less) → ((b : T) → best ≡ Some b → R b p ≢ Less) × ((y : T) → Contains (x ∷ xs) y → R y p ≢ Less)
      step rest = (
        λ b is. chain b m p (subst (λ o. R b (lesser R o x) ≢ Less) (sym is) (lesser_best b x)) (rest.0 m refl),
        λ y has. by rest y (cons_cases x y xs has),
      )

  -- the least is one of them
  pub least_among : (best : Option T) (xs : List T) (p : T) → least R best xs ≡ Some p → (best ≡ Some p) ⊎ Contains xs p
  least_among best [] p e = inl e
  least_among best (x ∷ xs) p e = by (least_among (Some (lesser R best x)) xs p e)
    where
      own : (best ≡ Some p) ⊎ (x ≡ p) → (best ≡ Some p) ⊎ Contains (x ∷ xs) p
      own (inl h) = inl h
      own (inr h) = inr (0, omega arith, h)

      by : (Some (lesser R best x) ≡ Some p) ⊎ Contains xs p → (best ≡ Some p) ⊎ Contains (x ∷ xs) p
      by (inl h) = let same : lesser R best x ≡ p = cc in own (lesser_is best x p same)
      by (inr h) = inr (later x p xs h)

  some_stays : (b : T) (xs : List T) → least R (Some b) xs ≡ None → ⊥
  some_stays b [] e = let bad : ⊥ = cc in bad
  some_stays b (x ∷ xs) e = some_stays (lesser R (Some b) x) xs e

  -- where there is no least, there is nothing
  pub least_none : (xs : List T) → least R None xs ≡ None → (x : T) → Contains xs x → ⊥
  least_none [] e x has = let bad : ⊥ = omega (arith, has.1) in bad
  least_none (y ∷ xs) e x has = some_stays y xs e
