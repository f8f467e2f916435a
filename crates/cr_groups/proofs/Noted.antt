-- One more of a list is noted in a table of firsts.
use Rattle.std.proofs.Common.{◌≡◌, ◌⊎◌, inl, inr, ℕ, ◌+◌, ◌<◌, Bool, true, false, eqb, Option, Some, None, List, refl, sym, subst, ◌∙◌, arith}
use Rattle.std.specs.Prelude.{slice_get, cond, MatchOption}
use Rattle.std.proofs.lemmas.Bool.{eqb-true, eq-eqb, cases_lt}
use Rattle.cr_groups.specs.Firsts.{find_number, or_number, Notes, IsFirstOf, NoneOf, AreFirsts}

module _ {A : Type 0} (key : A → Option ℕ) (xs : List A) where
  abbrev At : Option ℕ → ℕ → ℕ → Type 0
  At r n k = MatchOption r (NoneOf key xs n k) (IsFirstOf key xs n k)

  pub none_noted : (fs : List (ℕ × ℕ)) → ((k : ℕ) → find_number k fs ≡ None) → AreFirsts key xs fs 0
  none_noted fs h k = subst (λ z. At z 0 k) (sym (h k)) (λ j y lt at e. omega (arith, lt))

  module _ (fs fs' : List (ℕ × ℕ)) (n : ℕ) (x : A) (at : slice_get xs n ≡ Some x) (noted : AreFirsts key xs fs n) where
    same : (j : ℕ) (y : A) → slice_get xs j ≡ Some y → j < n + 1 → (j < n) ⊎ (y ≡ x)
    same j y bt lt =
        elim (cases_lt j n) [
          | inl l ↦ inl l
          | inr ge ↦ (let e : j ≡ n = omega (arith, lt, ge) in
              let f : Some y ≡ Some x = sym (subst (λ z. slice_get xs z ≡ Some y) e bt) ∙ at in
              let h : y ≡ x = cc in
              inr h)
        ]

    -- a key that x hasn't
    other : (k : ℕ) → (key x ≡ Some k → ⊥) → At (find_number k fs) n k → At (find_number k fs) (n + 1) k
    other k not h = by (find_number k fs) h
      where
        by : (r : Option ℕ) → At r n k → At r (n + 1) k
        by None h = λ j y lt bt e.
            elim (same j y bt lt) [
              | inl l ↦ h j y l bt e
              | inr q ↦ not (subst (λ z. key z ≡ Some k) q e)
            ]
        by (Some c) h = (let b : c < n = h.before in record { before = omega (arith, b); itself = h.itself; earliest = h.earliest })

    -- its own key
    here : (k : ℕ) → key x ≡ Some k → (r : Option ℕ) → At r n k → At (Some (or_number r n)) (n + 1) k
    here k is None h = record {
      before = omega arith;
      itself = (x, at, is);
      earliest = λ j y bt e.
          elim (cases_lt j n) [
            | inl l ↦ absurd (h j y l bt e)
            | inr ge ↦ omega (arith, ge)
          ];
    }
    here k is (Some c) h = (let b : c < n = h.before in record { before = omega (arith, b); itself = h.itself; earliest = h.earliest })

    noted_more : (o : Option ℕ) → key x ≡ o → Notes o n fs fs' → AreFirsts key xs fs' (n + 1)
    noted_more None e h k =
        subst (λ z. At (find_number k z) (n + 1) k) (sym h)
        (other k (λ f. let no : None ≡ Some k = sym e ∙ f in cc) (noted k))
    noted_more (Some a) e h k = subst (λ z. At z (n + 1) k) (sym (h k)) (by (eqb a k) refl)
      where
        by : (b : Bool) → eqb a k ≡ b → At (cond b (Some (or_number (find_number a fs) n)) (find_number k fs)) (n + 1) k
        by true q =
            let s : a ≡ k = eqb-true a k q in
            subst (λ z. At (Some (or_number (find_number a fs) n)) (n + 1) z) s (here a e (find_number a fs) (noted a))
        by false q =
            other k (λ f.
            let s : Some a ≡ Some k = sym e ∙ f in
            let u : a ≡ k = cc in
            let v : true ≡ false = sym (eq-eqb a k u) ∙ q in
            cc) (noted k)

    pub one_noted : Notes (key x) n fs fs' → AreFirsts key xs fs' (n + 1)
    one_noted h = noted_more (key x) refl h
