-- The steps of a verdict.
use Rattle.std.proofs.Common.{◌≡◌, ℕ, zero, suc, ◌≤◌, ◌⊎◌, Bool, true, false, List, [], ◌∷◌, length, take, Option, refl, sym, ap, ◌∙◌, subst, inl, inr, arith}
use Rattle.std.specs.Prelude.{◌↔◌, cond}
use Rattle.std.specs.List.{Contains, filter_map, filter}
use Rattle.std.proofs.lemmas.Grind.{common_steps}
use Rattle.std.specs.FinSet.{from_list}
use Rattle.cr_facts.specs.FactOrder.{Facts, FactsAreOrdered}
use Rattle.cr_facts.specs.declared.fact.Fact.{Fact}
use Rattle.cr_class.specs.Verdict.{IsGiven}
use Rattle.cr_class.proofs.Listed.{listed, told, kept, from_kept, cons_cases, later}

-- what the facts of a set give is what those of its list give
pub given_all : {X : Type 0} → FactsAreOrdered → (facts : Facts) (all : List Fact) → from_list all ≡ facts → (give : Fact → Option X) (x : X) → Contains (filter_map give all) x ↔ IsGiven give facts x
given_all law facts all is give x = (
  λ has. (let h = from_kept give all x has in (h.0, told law facts all is h.0 h.1, h.2)),
  λ h. kept give all h.0 x (listed law facts all is h.0 h.1) h.2,
)

-- what a filter keeps
pub filtered : {X : Type 0} (t : X → Bool) (xs : List X) (x : X) → Contains (filter t xs) x ↔ (Contains xs x × (t x ≡ true))
filtered t [] x = (λ has. (let bad : ⊥ = omega (arith, has.1) in absurd bad), λ h. (let bad : ⊥ = omega (arith, h.0.1) in absurd bad))
filtered {X} t (y ∷ xs) x = by (t y) refl (filtered t xs x)
  where
    by : (b : Bool) → t y ≡ b → Contains (filter t xs) x ↔ (Contains xs x × (t x ≡ true)) → Contains (cond b (y ∷ filter t xs) (filter t xs)) x ↔ (Contains (y ∷ xs) x × (t x ≡ true))
    by true e rest = (
      λ has. to (cons_cases y x (filter t xs) has),
      λ h. from h.1 (cons_cases y x xs h.0),
    )
      where
        to : (y ≡ x) ⊎ Contains (filter t xs) x → Contains (y ∷ xs) x × (t x ≡ true)
        to (inl same) = ((0, omega arith, same), subst (λ z. t z ≡ true) same e)
        to (inr h) = let r = rest.0 h in (later y x xs r.0, r.1)

        from : t x ≡ true → (y ≡ x) ⊎ Contains xs x → Contains (y ∷ filter t xs) x
        from is (inl same) = (0, omega arith, same)
        from is (inr h) = later y x (filter t xs) (rest.1 (h, is))
    by false e rest = (
      λ has. (let r = rest.0 has in (later y x xs r.0, r.1)),
      λ h. from h.1 (cons_cases y x xs h.0),
    )
      where
        from : t x ≡ true → (y ≡ x) ⊎ Contains xs x → Contains (filter t xs) x
        from is (inl same) = let bad : true ≡ false = sym is ∙ sym (ap t same) ∙ e in let no_way : ⊥ = cc in absurd no_way
        from is (inr h) = rest.1 (h, is)

pub filtered_all : {X : Type 0} (t : X → Bool) (xs found : List X) (i : ℕ) → length xs ≤ i → found ≡ filter t (take i xs) → (x : X) → Contains found x ↔ (Contains xs x × (t x ≡ true))
filtered_all t xs found i past is x = subst (λ l. Contains l x ↔ (Contains xs x × (t x ≡ true))) (sym (is ∙ ap (filter t) (take_past xs i past))) (filtered t xs x)
  where
    take_past : {X : Type 0} (ys : List X) (j : ℕ) → length ys ≤ j → take j ys ≡ ys
    take_past [] j h = grind (arith, common_steps)
    take_past (y ∷ ys) zero h = let bad : ⊥ = omega (arith, h) in absurd bad
    take_past (y ∷ ys) (suc j) h = ap (λ l. y ∷ l) (take_past ys j (omega (arith, h)))
