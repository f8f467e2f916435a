-- Where kept bytes and places stand after a substitution.
use Rattle.std.proofs.Common.{◌≡◌, ℕ, ◌+◌, ◌-◌, ◌<◌, ◌≤◌, ◌⊎◌, inl, inr, true, false, List, [], ◌∷◌, refl, ap, sym, ◌∙◌, arith}
use Rattle.std.specs.Prelude.{◌==◌, if◌then◌else◌}
use Rattle.std.proofs.lemmas.Bool.{cases_lt, cases_eq, lt-ltb, le-ltb, eqb-true, or_cases, or_parts, eqb-false}
use Rattle.cr_base.specs.Substitution.{Rise, shifted}
use Rattle.cr_lex.specs.Renaming.{is_among}

module _ (old new : ℕ) where
  -- an offset is inside no old name
  abbrev pub IsOut : List ℕ → ℕ → Type 0
  IsOut [] p = Unit {0}
  IsOut (o ∷ os) p = ((p ≤ o) ⊎ (o + old ≤ p)) × IsOut os p

  pub shifted-here : (o p : ℕ) (os : List ℕ) → p ≤ o → shifted (o ∷ os) old new p ≡ shifted os old new p
  shifted-here o p os h = ap (λ b. if b then shifted os old new p + new - old else shifted os old new p) (le-ltb o p h)

  pub shifted-past : (o p : ℕ) (os : List ℕ) → o < p → shifted (o ∷ os) old new p ≡ shifted os old new p + new - old
  shifted-past o p os h = ap (λ b. if b then shifted os old new p + new - old else shifted os old new p) (lt-ltb o p h)

  pub shifted-none : (os : List ℕ) (from end p : ℕ) → Rise from os old end → p ≤ from → shifted os old new p ≡ p
  shifted-none [] from end p r h = refl
  shifted-none (o ∷ os) from end p r h = shifted-here o p os (omega (arith, r.0)) ∙ shifted-none os (o + old) end p r.1 (omega (arith, r.0))

  pub shifted-above : (os : List ℕ) (from end p : ℕ) → Rise from os old end → from ≤ p → IsOut os p → from ≤ shifted os old new p
  shifted-above [] from end p r h out = h
  shifted-above (o ∷ os) from end p r h out = by out.0 (λ g. shifted-above os (o + old) end p r.1 g out.1)
    where
      by : ((p ≤ o) ⊎ (o + old ≤ p)) → (o + old ≤ p → o + old ≤ shifted os old new p) → from ≤ shifted (o ∷ os) old new p
      by (inl before) k = let e = shifted-here o p os before ∙ shifted-none os (o + old) end p r.1 (omega arith) in omega arith
      by (inr behind) k = elim (cases_lt o p) [
        | inl l ↦ (let e = shifted-past o p os l in let g = k behind in omega (arith, r.0))
        | inr g ↦ (let e = shifted-here o p os g in let f = k behind in omega (arith, r.0))
      ]

  pub out_more : (os : List ℕ) (p : ℕ) → IsOut os p → is_among os p ≡ false → IsOut os (p + 1)
  out_more [] p out h = tt
  out_more (o ∷ os) p out h = let q = or_parts (o == p) (is_among os p) h in (by out.0 (eqb-false o p q.0), out_more os p out.1 q.1)
    where
      by : ((p ≤ o) ⊎ (o + old ≤ p)) → (o ≡ p → ⊥) → (p + 1 ≤ o) ⊎ (o + old ≤ p + 1)
      by (inl l) ne = elim (cases_eq o p) [ inl e ↦ absurd (ne e) | inr d ↦ inl (omega arith) ]
      by (inr g) ne = inr (omega arith)

  -- a kept byte and the next one move alike
  pub shifted-more : (os : List ℕ) (from end p : ℕ) → 0 < old → Rise from os old end → IsOut os p → is_among os p ≡ false → shifted os old new (p + 1) ≡ shifted os old new p + 1
  shifted-more [] from end p some r out h = refl
  shifted-more (o ∷ os) from end p some r out h =
      let q = or_parts (o == p) (is_among os p) h in
      by out.0 (eqb-false o p q.0) (shifted-more os (o + old) end p some r.1 out.1 q.1)
    where
      by : ((p ≤ o) ⊎ (o + old ≤ p)) → (o ≡ p → ⊥) → shifted os old new (p + 1) ≡ shifted os old new p + 1 → shifted (o ∷ os) old new (p + 1) ≡ shifted (o ∷ os) old new p + 1
      by (inl l) ne ih = elim (cases_eq o p) [
        | inl e ↦ absurd (ne e)
        | inr d ↦ shifted-here o (p + 1) os (omega arith) ∙ ih ∙ ap (λ x. x + 1) (sym (shifted-here o p os l))
      ]
      by (inr g) ne ih =
          let above = shifted-above os (o + old) end p r.1 g out.1 in
          let a = shifted-past o (p + 1) os (omega arith) in
          let b = shifted-past o p os (omega arith) in
          omega arith

  pub among-above : (os : List ℕ) (from end p : ℕ) → Rise from os old end → is_among os p ≡ true → from ≤ p
  among-above [] from end p r h = cc
  among-above (o ∷ os) from end p r h = by (or_cases (o == p) (is_among os p) h) (λ g. among-above os (o + old) end p r.1 g)
    where
      by : ((o == p) ≡ true) ⊎ (is_among os p ≡ true) → (is_among os p ≡ true → o + old ≤ p) → from ≤ p
      by (inl e) k = let same = eqb-true o p e in omega (arith, r.0)
      by (inr e) k = let g = k e in omega (arith, r.0)

  -- nothing before an offset is inside an old name behind it
  pub out : (os : List ℕ) (from end p : ℕ) → Rise from os old end → p ≤ from → IsOut os p
  out [] from end p r h = tt
  out (u ∷ us) from end p r h = (inl (omega (arith, r.0)), out us (u + old) end p r.1 (omega (arith, r.0)))

  -- a place is in no old name but at its front, nor is the end of the name there
  pub out_place : (os : List ℕ) (from end p : ℕ) → Rise from os old end → is_among os p ≡ true → IsOut os p × IsOut os (p + old)
  out_place [] from end p r h = cc
  out_place (o ∷ os) from end p r h = by (or_cases (o == p) (is_among os p) h) (λ g. out_place os (o + old) end p r.1 g) (λ g. among-above os (o + old) end p r.1 g)
    where
      by : ((o == p) ≡ true) ⊎ (is_among os p ≡ true) → (is_among os p ≡ true → IsOut os p × IsOut os (p + old)) → (is_among os p ≡ true → o + old ≤ p) → IsOut (o ∷ os) p × IsOut (o ∷ os) (p + old)
      by (inl e) k g =
          let same = eqb-true o p e in
          ((inl (omega arith), out os (o + old) end p r.1 (omega arith)), (inr (omega arith), out os (o + old) end (p + old) r.1 (omega arith)))
      by (inr e) k g = let f = g e in let rest = k e in ((inr f, rest.0), (inr (omega arith), rest.1))

  -- behind a place stands the new name
  pub shifted-place : (os : List ℕ) (from end p : ℕ) → 0 < old → Rise from os old end → is_among os p ≡ true → shifted os old new (p + old) ≡ shifted os old new p + new
  shifted-place [] from end p some r h = cc
  shifted-place (o ∷ os) from end p some r h = by (or_cases (o == p) (is_among os p) h) (λ g. shifted-place os (o + old) end p some r.1 g)
    where
      by : ((o == p) ≡ true) ⊎ (is_among os p ≡ true) → (is_among os p ≡ true → shifted os old new (p + old) ≡ shifted os old new p + new) → shifted (o ∷ os) old new (p + old) ≡ shifted (o ∷ os) old new p + new
      by (inl e) k =
          let same = eqb-true o p e in
          let a = shifted-past o (p + old) os (omega arith) in
          let b = shifted-here o p os (omega arith) in
          let c = shifted-none os (o + old) end p r.1 (omega arith) in
          let d = shifted-none os (o + old) end (p + old) r.1 (omega arith) in
          omega arith
      by (inr e) k =
          let g = among-above os (o + old) end p r.1 e in
          let above = shifted-above os (o + old) end p r.1 g (out_place os (o + old) end p r.1 e).0 in
          let a = shifted-past o (p + old) os (omega arith) in
          let b = shifted-past o p os (omega arith) in
          let c = k e in
          omega arith
