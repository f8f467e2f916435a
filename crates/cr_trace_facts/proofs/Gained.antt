-- What a loop over a list has added.
use Rattle.std.proofs.Common.{◌≡◌, ◌<◌, ◌≤◌, ◌+◌, ℕ, suc, zero, List, [], ◌∷◌, ◌++◌, length, take, get_or, refl, sym, subst, inl, inr, arith}
use Rattle.std.specs.Prelude.{Contains}
use Rattle.std.proofs.Math.Seq.{take-suc}
use Rattle.std.proofs.lemmas.List.{take_all}
use Rattle.std.proofs.lemmas.List.Elements.{Contains-append_left, Contains-append_right, Contains-append_cases}
use Rattle.cr_facts.specs.FactOrder.{Facts}
use Rattle.cr_facts.specs.declared.fact.Fact.{Fact}
use Rattle.cr_groups.specs.Adding.{Adds}
use Rattle.cr_trace_facts.specs.Telling.{Among}

gained_one : {A : Type 0} (T : A → Fact → Type 0) (xs : List A) (i : ℕ) (d : A) → i < length xs → (a b c : Facts) → Adds a b (Among T (take i xs)) → Adds b c (T (get_or xs i d)) → Adds a c (Among T (take (suc i) xs))
gained_one {A} T xs i d lt a b c before one f = (
  (λ h.
      elim ((one f).0 h) [
        | inl m ↦ elim ((before f).0 m) [ inl k ↦ inl k | inr t ↦ inr (t.0, later t.0 t.1, t.2) ]
        | inr t ↦ inr (get_or xs i d, now, t)
      ]),
  (λ h.
      elim h [
        | inl k ↦ (one f).1 (inl ((before f).1 (inl k)))
        | inr t ↦
            elim (Contains-append_cases (take i xs) (get_or xs i d ∷ []) t.0 (subst (λ l. Contains l t.0) step t.1)) [
              | inl there ↦ (one f).1 (inl ((before f).1 (inr (t.0, there, t.2))))
              | inr here ↦ (one f).1 (inr (subst (λ x. T x f) (only t.0 here) t.2))
            ]
      ]),
)
  where
    step : take (suc i) xs ≡ take i xs ++ (get_or xs i d ∷ [])
    step = take-suc xs i d lt

    later : (x : A) → Contains (take i xs) x → Contains (take (suc i) xs) x
    later x there = subst (λ l. Contains l x) (sym step) (Contains-append_left (take i xs) (get_or xs i d ∷ []) x there)

    now : Contains (take (suc i) xs) (get_or xs i d)
    now = subst (λ l. Contains l (get_or xs i d)) (sym step) (Contains-append_right (take i xs) (get_or xs i d ∷ []) (get_or xs i d) (0, omega arith, refl))

    only : (x : A) → Contains (get_or xs i d ∷ []) x → x ≡ get_or xs i d
    only x (zero, lt1, is) = sym is
    only x (suc k, lt1, is) = let bad : ⊥ = omega (arith, lt1) in absurd bad

pub gained_next : {A : Type 0} (T : A → Fact → Type 0) (xs : List A) (i : ℕ) (d : A) → i < length xs → (a b c : Facts) → Adds a b (Among T (take i xs)) → Adds b c (T (get_or xs i d)) → Adds a c (Among T (take (i + 1) xs))
gained_next T xs i d lt a b c before one = subst (λ n. Adds a c (Among T (take n xs))) next (gained_one T xs i d lt a b c before one)
  where
    next : suc i ≡ i + 1
    next = omega arith

pub gained_all : {A : Type 0} (T : A → Fact → Type 0) (xs : List A) (i : ℕ) → length xs ≤ i → (a b : Facts) → Adds a b (Among T (take i xs)) → Adds a b (Among T xs)
gained_all T xs i past a b all = subst (λ l. Adds a b (Among T l)) (take_all i xs past) all
