-- A loop over a list that adds facts.
use Rattle.std.proofs.Common.{◌≡◌, ◌⊎◌, inl, inr, ℕ, ◌+◌, ◌<◌, Some, List, sym, subst, ◌∙◌, arith}
use Rattle.std.specs.Prelude.{slice_get}
use Rattle.std.proofs.lemmas.Bool.{cases_lt}
use Rattle.cr_facts.specs.FactOrder.{Facts}
use Rattle.cr_facts.specs.declared.fact.Fact.{Fact}
use Rattle.cr_groups.specs.Adding.{Adds, OfFirst}
use Rattle.cr_groups.proofs.Added.{adds_same, adds_none, adds_both}

pub none_yet : {A : Type 0} (P : A → Fact → Type 0) (xs : List A) (start : Facts) → Adds start start (OfFirst P xs 0)
none_yet P xs start = adds_none start (OfFirst P xs 0) (λ f h. let l : h.0 < 0 = h.2 in omega (arith, l))

pub one_more : {A : Type 0} (P : A → Fact → Type 0) (xs : List A) (start mid facts : Facts) (n : ℕ) (x : A) → slice_get xs n ≡ Some x → Adds start mid (OfFirst P xs n) → Adds mid facts (P x) → Adds start facts (OfFirst P xs (n + 1))
one_more {A} P xs start mid facts n x at h g =
    adds_same start facts (λ f. OfFirst P xs n f ⊎ P x f) (OfFirst P xs (n + 1))
    (λ f k. elim k [
      | inl m ↦ (let l : m.0 < n = m.2 in (m.0, m.1, omega (arith, l), m.3, m.4))
      | inr m ↦ (n, x, omega arith, at, m)
    ])
    (λ f k. elim (cases_lt k.0 n) [
      | inl lt ↦ inl (k.0, k.1, lt, k.3, k.4)
      | inr ge ↦ (let l : k.0 < n + 1 = k.2 in
          let e : k.0 ≡ n = omega (arith, ge, l) in
          let a : slice_get xs n ≡ Some k.1 = subst (λ z. slice_get xs z ≡ Some k.1) e k.3 in
          let b : Some k.1 ≡ Some x = sym a ∙ at in
          let c : k.1 ≡ x = cc in
          inr (subst (λ z. P z f) c k.4))
    ])
    (adds_both start mid facts (OfFirst P xs n) (P x) h g)
