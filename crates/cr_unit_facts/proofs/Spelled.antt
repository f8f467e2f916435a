-- A loop over tokens that adds what they tell by their spelling.
use Rattle.std.proofs.Common.{◌≡◌, ◌⊎◌, inl, inr, ℕ, ◌+◌, ◌<◌, Bool, Some, List, sym, subst, ◌∙◌, arith}
use Rattle.std.specs.Prelude.{slice_get}
use Rattle.std.proofs.lemmas.Bool.{cases_lt}
use Rattle.cr_base.specs.declared.token.Name.{Name}
use Rattle.cr_base.specs.declared.token.Tok.{Tok}
use Rattle.cr_facts.specs.FactOrder.{Facts}
use Rattle.cr_facts.specs.declared.fact.Fact.{Fact}
use Rattle.cr_groups.specs.Adding.{Adds}
use Rattle.cr_groups.proofs.Added.{adds_same, adds_both}
use Rattle.cr_unit_facts.specs.Telling.{SpelledTells, TokensTell}

module _ (tokens : List Tok) (old new : Name) (hidden : ℕ → Bool) where
  abbrev Tell : ℕ → Fact → Type 0
  Tell n f = TokensTell tokens old new hidden n f

  abbrev One : ℕ → Tok → Fact → Type 0
  One i x f = SpelledTells old new (hidden i) x f

  pub one_more_token : (start mid end : Facts) (n : ℕ) (x : Tok) → slice_get tokens n ≡ Some x → Adds start mid (Tell n) → Adds mid end (One n x) → Adds start end (Tell (n + 1))
  one_more_token start mid end n x at h g =
      adds_same start end (λ f. Tell n f ⊎ One n x f) (Tell (n + 1))
      (λ f k. elim k [
        | inl m ↦ (let l : m.0 < n = m.2 in (m.0, m.1, omega (arith, l), m.3, m.4))
        | inr m ↦ (n, x, omega arith, at, m)
      ])
      (λ f k. elim (cases_lt k.0 n) [
        | inl lt ↦ inl (k.0, k.1, lt, k.3, k.4)
        | inr ge ↦ (let l : k.0 < n + 1 = k.2 in
            let e : k.0 ≡ n = omega (arith, ge, l) in
            let a : slice_get tokens n ≡ Some k.1 = subst (λ z. slice_get tokens z ≡ Some k.1) e k.3 in
            let b : Some k.1 ≡ Some x = sym a ∙ at in
            let c : k.1 ≡ x = cc in
            inr (subst (λ z. One n z f) c (subst (λ z. One z k.1 f) e k.4)))
      ])
      (adds_both start mid end (Tell n) (One n x) h g)
