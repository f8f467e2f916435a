-- The nearest declarations of a name, from a scope outward.
use Rattle.std.proofs.Common.{◌≡◌, ◌⊎◌, inl, inr, ℕ, ◌<◌, true, false, ◌&&◌, eqb, Option, Some, None, List, [], ◌∷◌, ◌++◌, length, refl, sym, ap, subst, ◌∙◌}
use Rattle.std.proofs.lemmas.Bool.{eqb-true, eq-eqb}
use Rattle.cr_base.specs.declared.token.Name.{Name}
use Rattle.cr_scope.specs.Declarations.{is_prefix}
use Rattle.cr_scope.proofs.Paths.{and_both, prefix_refl, prefix_more}
use Rattle.cr_paths.specs.Paths.{path_at, AreDistinct}
use Rattle.cr_scope.specs.declared.Space.{Space}
use Rattle.cr_declared.specs.declared.rows.Slot.{Slot}
use Rattle.cr_declared.specs.declared.table.Ends.{Ends}
use Rattle.cr_declared.specs.Rows.{slot}
use Rattle.cr_declared.specs.Kept.{find_slot, Encloses, IsNearest}

-- a prefix of a longer path is a prefix of the shorter one, or is the longer one
pub prefix_of_more : (p q : List ℕ) (k : ℕ) → is_prefix p (q ++ k ∷ []) ≡ true → (is_prefix p q ≡ true) ⊎ (p ≡ q ++ k ∷ [])
prefix_of_more [] q k h = inl refl
prefix_of_more (a ∷ []) [] k h =
    let x : (eqb a k ≡ true) × (true ≡ true) = and_both (eqb a k) true h in
    inr (ap (λ z. z ∷ []) (eqb-true a k x.0))
prefix_of_more (a ∷ b ∷ p) [] k h =
    let x : (eqb a k ≡ true) × (false ≡ true) = and_both (eqb a k) false h in
    let no : false ≡ true = x.1 in
    cc
prefix_of_more (a ∷ p) (b ∷ q) k h =
    let x : (eqb a b ≡ true) × (is_prefix p (q ++ k ∷ []) ≡ true) = and_both (eqb a b) (is_prefix p (q ++ k ∷ [])) h in
    elim (prefix_of_more p q k x.1) [
      | inl y ↦ inl (ap (λ z. z && is_prefix p q) x.0 ∙ y)
      | inr y ↦ inr (let e : a ≡ b = eqb-true a b x.0 in cc)
    ]

pub prefix_of_none : (p : List ℕ) → is_prefix p [] ≡ true → p ≡ []
prefix_of_none [] h = refl
prefix_of_none (a ∷ p) h = cc

pub prefix_through : (p q r : List ℕ) → is_prefix p q ≡ true → is_prefix q r ≡ true → is_prefix p r ≡ true
prefix_through [] q r g h = refl
prefix_through (a ∷ p) [] r g h = cc
prefix_through (a ∷ p) (b ∷ q) [] g h = cc
prefix_through (a ∷ p) (b ∷ q) (c ∷ r) g h =
    let x : (eqb a b ≡ true) × (is_prefix p q ≡ true) = and_both (eqb a b) (is_prefix p q) g in
    let y : (eqb b c ≡ true) × (is_prefix q r ≡ true) = and_both (eqb b c) (is_prefix q r) h in
    let e : a ≡ c = eqb-true a b x.0 ∙ eqb-true b c y.0 in
    ap (λ z. z && is_prefix p r) (eq-eqb a c e) ∙ prefix_through p q r x.1 y.1

-- how far a search outward has come
pub record Reached (ps : List (List ℕ)) (es : List (Slot × Ends)) (place : ℕ) (sp : Space) (name : Name) (at : ℕ) : Type 0 where
  pub there : at < length ps
  pub around : is_prefix (path_at ps at) (path_at ps place) ≡ true
  pub left : (o : ℕ) (f : Ends) → Encloses ps o place → find_slot (slot o sp name) es ≡ Some f → is_prefix (path_at ps o) (path_at ps at) ≡ true

module _ (ps : List (List ℕ)) (es : List (Slot × Ends)) (place : ℕ) (sp : Space) (name : Name) (distinct : AreDistinct ps) where
  pub at_once : place < length ps → Reached ps es place sp name place
  at_once lt = record { there = lt; around = prefix_refl (path_at ps place); left = λ o f e h. e.1 }

  pub found : (at : ℕ) (e : Ends) → Reached ps es place sp name at → find_slot (slot at sp name) es ≡ Some e → IsNearest ps es place sp name (Some e)
  found at e r h = (at, (r.there, r.around), h, r.left)

  none_there : (o at : ℕ) → Reached ps es place sp name at → find_slot (slot at sp name) es ≡ None → o < length ps → path_at ps o ≡ path_at ps at → (f : Ends) → find_slot (slot o sp name) es ≡ Some f → ⊥
  none_there o at r none lt same f h =
      let i : o ≡ at = distinct o at lt r.there same in
      let g : find_slot (slot at sp name) es ≡ Some f = subst (λ z. find_slot (slot z sp name) es ≡ Some f) i h in
      let no : None ≡ Some f = sym none ∙ g in
      cc

  pub outward : (at o k : ℕ) → Reached ps es place sp name at → find_slot (slot at sp name) es ≡ None → o < length ps → path_at ps at ≡ path_at ps o ++ k ∷ [] → Reached ps es place sp name o
  outward at o k r none lt step = record {
    there = lt;
    around = prefix_through (path_at ps o) (path_at ps at) (path_at ps place) (subst (λ z. is_prefix (path_at ps o) z ≡ true) (sym step) (prefix_more (path_at ps o) (path_at ps o) (k ∷ []) (prefix_refl (path_at ps o)))) r.around;
    left = λ q f e h.
        elim (prefix_of_more (path_at ps q) (path_at ps o) k (subst (λ z. is_prefix (path_at ps q) z ≡ true) step (r.left q f e h))) [
          | inl x ↦ x
          | inr x ↦ absurd (none_there q at r none e.0 (x ∙ sym step) f h)
        ];
  }

  pub nowhere : (at : ℕ) → Reached ps es place sp name at → find_slot (slot at sp name) es ≡ None → path_at ps at ≡ [] → IsNearest ps es place sp name None
  nowhere at r none file = λ q e. by (find_slot (slot q sp name) es) refl e
    where
      by : (o : Option Ends) → {q : ℕ} → find_slot (slot q sp name) es ≡ o → Encloses ps q place → o ≡ None
      by None h e = refl
      by (Some f) {q} h e = absurd (none_there q at r none e.0 (prefix_of_none (path_at ps q) (subst (λ z. is_prefix (path_at ps q) z ≡ true) file (r.left q f e h)) ∙ sym file) f h)

pub at_file : (ps : List (List ℕ)) (at : ℕ) → at ≡ 0 → path_at ps 0 ≡ [] → path_at ps at ≡ []
at_file ps at e f = ap (path_at ps) e ∙ f
