-- The scopes around a place, from inside outward.
use Rattle.std.proofs.Common.{◌≡◌, ◌⊎◌, inl, inr, ℕ, ◌+◌, ◌-◌, ◌<◌, ◌≤◌, true, ◌&&◌, eqb, List, [], ◌∷◌, ◌++◌, length, refl, sym, ap, subst, ◌∙◌, arith, length-append}
use Rattle.std.proofs.lemmas.Bool.{eqb-true, eq-eqb, cases_lt}
use Rattle.cr_scope.specs.Declarations.{is_prefix}
use Rattle.cr_scope.proofs.Paths.{and_both, prefix_refl, prefix_more}
use Rattle.cr_facts.specs.FactOrder.{Facts}
use Rattle.cr_facts.specs.declared.fact.Fact.{Fact}
use Rattle.cr_paths.specs.Paths.{path_at, AreDistinct}
use Rattle.cr_groups.specs.Adding.{Adds}
use Rattle.cr_groups.specs.Outward.{Encloses, Around}
use Rattle.cr_groups.proofs.Added.{adds_same, adds_none, adds_both}

pub prefix_length : (p q : List ℕ) → is_prefix p q ≡ true → length p ≤ length q
prefix_length [] q h = omega arith
prefix_length (a ∷ p) [] h = cc
prefix_length (a ∷ p) (b ∷ q) h =
    let x : (eqb a b ≡ true) × (is_prefix p q ≡ true) = and_both (eqb a b) (is_prefix p q) h in
    let l : length p ≤ length q = prefix_length p q x.1 in
    omega arith

pub prefix_one : (p q r : List ℕ) → is_prefix p r ≡ true → is_prefix q r ≡ true → length p ≡ length q → p ≡ q
prefix_one [] [] r g h l = refl
prefix_one [] (b ∷ q) r g h l = absurd (omega (arith, l))
prefix_one (a ∷ p) [] r g h l = absurd (omega (arith, l))
prefix_one (a ∷ p) (b ∷ q) [] g h l = cc
prefix_one (a ∷ p) (b ∷ q) (c ∷ r) g h l =
    let x : (eqb a c ≡ true) × (is_prefix p r ≡ true) = and_both (eqb a c) (is_prefix p r) g in
    let y : (eqb b c ≡ true) × (is_prefix q r ≡ true) = and_both (eqb b c) (is_prefix q r) h in
    let e : a ≡ b = eqb-true a c x.0 ∙ sym (eqb-true b c y.0) in
    let m : length p ≡ length q = omega (arith, l) in
    let f : p ≡ q = prefix_one p q r x.1 y.1 m in
    cc

pub prefix_through : (p q r : List ℕ) → is_prefix p q ≡ true → is_prefix q r ≡ true → is_prefix p r ≡ true
prefix_through [] q r g h = refl
prefix_through (a ∷ p) [] r g h = cc
prefix_through (a ∷ p) (b ∷ q) [] g h = cc
prefix_through (a ∷ p) (b ∷ q) (c ∷ r) g h =
    let x : (eqb a b ≡ true) × (is_prefix p q ≡ true) = and_both (eqb a b) (is_prefix p q) g in
    let y : (eqb b c ≡ true) × (is_prefix q r ≡ true) = and_both (eqb b c) (is_prefix q r) h in
    let e : a ≡ c = eqb-true a b x.0 ∙ eqb-true b c y.0 in
    ap (λ z. z && is_prefix p r) (eq-eqb a c e) ∙ prefix_through p q r x.1 y.1

-- what is around at a scope deeper than a depth
abbrev pub IsDeeper : List (List ℕ) → ℕ → ℕ → (ℕ → Fact → Type 0) → ℕ → Fact → Type 0
IsDeeper ps place limit Here deep f =
    (q : ℕ) × Encloses ps q place × (deep < length (path_at ps q)) × (limit ≤ length (path_at ps q)) × Here q f

-- how far a search outward has come, with what it added
pub record Reached (ps : List (List ℕ)) (place limit : ℕ) (Here : ℕ → Fact → Type 0) (start facts : Facts) (at deep : ℕ) : Type 0 where
  pub there : at < length ps
  pub around : is_prefix (path_at ps at) (path_at ps place) ≡ true
  pub nested : deep ≡ length (path_at ps at)
  pub adds : Adds start facts (IsDeeper ps place limit Here deep)

module _ (ps : List (List ℕ)) (place limit : ℕ) (Here : ℕ → Fact → Type 0) (distinct : AreDistinct ps) where
  pub at_once : (start : Facts) (deep : ℕ) → place < length ps → deep ≡ length (path_at ps place) → Reached ps place limit Here start start place deep
  at_once start deep lt e = record {
    there = lt;
    around = prefix_refl (path_at ps place);
    nested = e;
    adds = adds_none start (IsDeeper ps place limit Here deep) (λ f h.
        let l : length (path_at ps h.0) ≤ length (path_at ps place) = prefix_length (path_at ps h.0) (path_at ps place) h.1.1 in
        let d : deep < length (path_at ps h.0) = h.2 in
        omega (arith, l, d, e));
  }

  -- a scope around that is as deep is the same
  one_at : (at q : ℕ) → at < length ps → is_prefix (path_at ps at) (path_at ps place) ≡ true → Encloses ps q place → length (path_at ps q) ≡ length (path_at ps at) → q ≡ at
  one_at at q lt around enc e =
      distinct q at enc.0 lt (prefix_one (path_at ps q) (path_at ps at) (path_at ps place) enc.1 around e)

  -- with what is in the scope itself
  pub with_here : (start mid facts : Facts) (at deep : ℕ) → Reached ps place limit Here start mid at deep → limit ≤ deep → Adds mid facts (Here at)
      → Adds start facts (λ f. (q : ℕ) × Encloses ps q place × (deep ≤ length (path_at ps q)) × (limit ≤ length (path_at ps q)) × Here q f)
  with_here start mid facts at deep r le h =
      adds_same start facts (λ f. IsDeeper ps place limit Here deep f ⊎ Here at f) Q
      (λ f k. elim k [
        | inl m ↦ (let d : deep < length (path_at ps m.0) = m.2 in (m.0, m.1, omega (arith, d), m.3, m.4))
        | inr m ↦ (at, (r.there, r.around), omega (arith, r.nested), omega (arith, le, r.nested), m)
      ])
      (λ f k. elim (cases_lt deep (length (path_at ps k.0))) [
        | inl lt ↦ inl (k.0, k.1, lt, k.3, k.4)
        | inr ge ↦ (let d : deep ≤ length (path_at ps k.0) = k.2 in
            let e : length (path_at ps k.0) ≡ length (path_at ps at) = omega (arith, ge, d, r.nested) in
            inr (subst (λ z. Here z f) (one_at at k.0 r.there r.around k.1 e) k.4))
      ])
      (adds_both start mid facts (IsDeeper ps place limit Here deep) (Here at) r.adds h)
    where
      Q : Fact → Type 0
      Q f = (q : ℕ) × Encloses ps q place × (deep ≤ length (path_at ps q)) × (limit ≤ length (path_at ps q)) × Here q f

  pub outward : (start mid facts : Facts) (at deep o k : ℕ) → Reached ps place limit Here start mid at deep → limit ≤ deep → Adds mid facts (Here at)
      → o < length ps → path_at ps at ≡ path_at ps o ++ k ∷ [] → Reached ps place limit Here start facts o (deep - 1)
  outward start mid facts at deep o k r le h lt step =
      let l : length (path_at ps at) ≡ length (path_at ps o) + 1 = ap length step ∙ length-append (path_at ps o) (k ∷ []) in
      let n : deep ≡ length (path_at ps at) = r.nested in
      record {
        there = lt;
        around = prefix_through (path_at ps o) (path_at ps at) (path_at ps place) (subst (λ z. is_prefix (path_at ps o) z ≡ true) (sym step) (prefix_more (path_at ps o) (path_at ps o) (k ∷ []) (prefix_refl (path_at ps o)))) r.around;
        nested = omega (arith, l, n);
        adds = adds_same start facts _ (IsDeeper ps place limit Here (deep - 1))
            (λ f m. let d : deep ≤ length (path_at ps m.0) = m.2 in (m.0, m.1, omega (arith, l, n, d), m.3, m.4))
            (λ f m. let d : deep - 1 < length (path_at ps m.0) = m.2 in (m.0, m.1, omega (arith, l, n, d), m.3, m.4))
            (with_here start mid facts at deep r le h);
      }

  pub shallow : (start facts : Facts) (at deep : ℕ) → Reached ps place limit Here start facts at deep → deep < limit → Adds start facts (Around ps place limit Here)
  shallow start facts at deep r lt =
      adds_same start facts (IsDeeper ps place limit Here deep) (Around ps place limit Here)
      (λ f m. (m.0, m.1, m.3, m.4))
      (λ f m. let d : limit ≤ length (path_at ps m.0) = m.2 in (m.0, m.1, omega (arith, lt, d), m.2, m.3))
      r.adds

  pub at_file : (start mid facts : Facts) (at deep : ℕ) → Reached ps place limit Here start mid at deep → limit ≤ deep → Adds mid facts (Here at)
      → at ≡ 0 → path_at ps 0 ≡ [] → Adds start facts (Around ps place limit Here)
  at_file start mid facts at deep r le h first file =
      let n : deep ≡ 0 = r.nested ∙ ap (λ z. length (path_at ps z)) first ∙ ap length file in
      adds_same start facts _ (Around ps place limit Here)
      (λ f m. (m.0, m.1, m.3, m.4))
      (λ f m. (m.0, m.1, omega (arith, n), m.2, m.3))
      (with_here start mid facts at deep r le h)

-- nothing around a place is deeper than it
pub none_deeper : (ps : List (List ℕ)) (place limit : ℕ) (Here : ℕ → Fact → Type 0) (start : Facts) → length (path_at ps place) < limit → Adds start start (Around ps place limit Here)
none_deeper ps place limit Here start lt = adds_none start (Around ps place limit Here) (λ f h.
    let l : length (path_at ps h.0) ≤ length (path_at ps place) = prefix_length (path_at ps h.0) (path_at ps place) h.1.1 in
    let m : limit ≤ length (path_at ps h.0) = h.2 in
    omega (arith, l, m, lt))
