-- The first element of a list that passes a test, and a list with one more.
use Rattle.std.proofs.Common.{◌≡◌, ◌⊎◌, inl, inr, ℕ, zero, suc, ◌+◌, ◌<◌, ◌≤◌, Bool, true, false, ◌||◌, not, cond, Option, Some, None, List, [], ◌∷◌, ◌++◌, length, get_or, refl, sym, ap, subst, ◌∙◌, arith, true≢false}
use Rattle.std.specs.Prelude.{slice_get, position, nat_lt}
use Rattle.std.specs.List.{list_any, position_or_len}
use Rattle.std.proofs.lemmas.Bool.{cases_lt, lt-ltb}
use Rattle.std.proofs.lemmas.List.Quantifiers.{position-Some}
use Rattle.std.proofs.lemmas.Option.{slice_get_within, slice_get-get_or, get_or_from_slice_get}
use Rattle.cr_declared.specs.Kept.{or_else}

-- ---- elements

pub end_at : {A : Type 0} (xs : List A) (x y : A) (i : ℕ) → slice_get (xs ++ x ∷ []) i ≡ Some y → (slice_get xs i ≡ Some y) ⊎ ((y ≡ x) × (i ≡ length xs))
end_at [] x y zero at = let e : x ≡ y = cc in inr (sym e, refl)
end_at [] x y (suc i) at = cc
end_at (z ∷ xs) x y zero at = inl at
end_at (z ∷ xs) x y (suc i) at = elim (end_at xs x y i at) [ inl h ↦ inl h | inr h ↦ inr (h.0, omega (arith, h.1)) ]

pub at_end : {A : Type 0} (xs : List A) (x : A) → slice_get (xs ++ x ∷ []) (length xs) ≡ Some x
at_end [] x = refl
at_end (z ∷ xs) x = at_end xs x

pub within_more : {A : Type 0} (xs : List A) (x y : A) (i : ℕ) → slice_get xs i ≡ Some y → slice_get (xs ++ x ∷ []) i ≡ Some y
within_more [] x y i at = cc
within_more (z ∷ xs) x y zero at = at
within_more (z ∷ xs) x y (suc i) at = within_more xs x y i at

-- ---- a test that some element passes

pub any_at : {A : Type 0} (p : A → Bool) (xs : List A) → list_any p xs ≡ true → (i : ℕ) × (x : A) × (slice_get xs i ≡ Some x) × (p x ≡ true)
any_at p [] h = absurd (true≢false (sym h))
any_at {A} p (x ∷ xs) h = by (p x) refl h (λ g. any_at p xs g)
  where
    by : (b : Bool) → p x ≡ b → (b || list_any p xs) ≡ true → (list_any p xs ≡ true → (i : ℕ) × (y : A) × (slice_get xs i ≡ Some y) × (p y ≡ true))
        → (i : ℕ) × (y : A) × (slice_get (x ∷ xs) i ≡ Some y) × (p y ≡ true)
    by true e g more = (0, x, refl, e)
    by false e g more = (let r = more g in (suc r.0, r.1, r.2, r.3))

pub at_any : {A : Type 0} (p : A → Bool) (xs : List A) (i : ℕ) (x : A) → slice_get xs i ≡ Some x → p x ≡ true → list_any p xs ≡ true
at_any p [] i x at h = cc
at_any p (y ∷ xs) zero x at h = (let e : x ≡ y = cc in ap (λ b. b || list_any p xs) (sym (ap p e) ∙ h))
at_any p (y ∷ xs) (suc i) x at h = ap (λ b. p y || b) (at_any p xs i x at h) ∙ or_true (p y)
  where
    or_true : (b : Bool) → (b || true) ≡ true
    or_true true = refl
    or_true false = refl

-- ---- the first one

abbrev pub IsFirst : {A : Type 0} → (A → Bool) → List A → ℕ → A → Type 0
IsFirst {A} p es i e = (slice_get es i ≡ Some e) × (p e ≡ true) × ((j : ℕ) (f : A) → j < i → slice_get es j ≡ Some f → p f ≡ false)

first_at : {A : Type 0} (p : A → Bool) (es : List A) (i : ℕ) (e : A) → slice_get es i ≡ Some e → p e ≡ true → position_or_len p es ≤ i
first_at p [] i e h t = cc
first_at {A} p (a ∷ es) i e h t = by (p a) refl i h (λ j at. first_at p es j e at t)
  where
    by : (b : Bool) → p a ≡ b → (i : ℕ) → slice_get (a ∷ es) i ≡ Some e → ((j : ℕ) → slice_get es j ≡ Some e → position_or_len p es ≤ j) → position_or_len p (a ∷ es) ≤ i
    by true k i h more = subst (λ b. cond (not b) (1 + position_or_len p es) 0 ≤ i) (sym k) (omega arith)
    by false k zero h more = (let same : a ≡ e = cc in absurd (true≢false (sym t ∙ ap p (sym same) ∙ k)))
    by false k (suc i) h more = subst (λ b. cond (not b) (1 + position_or_len p es) 0 ≤ suc i) (sym k) (let l : position_or_len p es ≤ i = more i h in omega (arith, l))

-- what passes is found at its position or before
pub first_position : {A : Type 0} (p : A → Bool) (es : List A) (i : ℕ) (e : A) → slice_get es i ≡ Some e → p e ≡ true
    → (k : ℕ) × (g : A) × (position p es ≡ Some k) × IsFirst p es k g × (k ≤ i)
first_position {A} p es i e h t =
    let l : position_or_len p es ≤ i = first_at p es i e h t in
    let m : i < length es = slice_get_within es i e h in
    let lt : nat_lt (position_or_len p es) (length es) ≡ true = lt-ltb (position_or_len p es) (length es) (omega (arith, l, m)) in
    let at : position p es ≡ Some (position_or_len p es) = ap (λ b. cond b (Some (position_or_len p es)) None) lt in
    let r : (position_or_len p es < length es) × (p (get_or es (position_or_len p es) e) ≡ true) × ((k : ℕ) → k < position_or_len p es → p (get_or es k e) ≡ false) = position-Some p es (position_or_len p es) e at in (
      position_or_len p es,
      get_or es (position_or_len p es) e,
      at,
      (
        slice_get-get_or es (position_or_len p es) e r.0,
        r.1,
        (λ j f lt at. subst (λ z. p z ≡ false) (get_or_from_slice_get es j f e at) (r.2 j lt)),
      ),
      l,
    )

-- what is first has its position
pub position_is : {A : Type 0} (p : A → Bool) (es : List A) (i : ℕ) (e : A) → IsFirst p es i e → position p es ≡ Some i
position_is {A} p es i e h =
    let r : (k : ℕ) × (g : A) × (position p es ≡ Some k) × IsFirst p es k g × (k ≤ i) = first_position p es i e h.0 h.1 in
    r.2 ∙ ap Some (elim (cases_lt r.0 i) [
      | inl lt ↦ absurd (true≢false (sym r.3.1 ∙ h.2 r.0 r.1 lt r.3.0))
      | inr ge ↦ omega (arith, ge, r.4)
    ])

pub position_means : {A : Type 0} (p : A → Bool) (es : List A) (i : ℕ) → position p es ≡ Some i → (e : A) × IsFirst p es i e
position_means p [] i h = cc
position_means p (x ∷ xs) i h =
    let r : (i < length (x ∷ xs)) × (p (get_or (x ∷ xs) i x) ≡ true) × ((k : ℕ) → k < i → p (get_or (x ∷ xs) k x) ≡ false) = position-Some p (x ∷ xs) i x h in
    (get_or (x ∷ xs) i x, (slice_get-get_or (x ∷ xs) i x r.0, r.1, (λ j f lt at. subst (λ z. p z ≡ false) (get_or_from_slice_get (x ∷ xs) j f x at) (r.2 j lt))))

-- where none is found none passes, and the other way round
pub none_passes : {A : Type 0} (p : A → Bool) (es : List A) → position p es ≡ None → (j : ℕ) (f : A) → slice_get es j ≡ Some f → p f ≡ false
none_passes p es none j f at = by (p f) refl
  where
    by : (b : Bool) → p f ≡ b → b ≡ false
    by false e = refl
    by true e = (let r = first_position p es j f at e in let no : None ≡ Some r.0 = sym none ∙ r.2 in cc)

pub position_none : {A : Type 0} (p : A → Bool) (es : List A) → ((j : ℕ) (f : A) → slice_get es j ≡ Some f → p f ≡ false) → position p es ≡ None
position_none {A} p es h = by (position p es) refl
  where
    by : (o : Option ℕ) → position p es ≡ o → o ≡ None
    by None e = refl
    by (Some i) e = (let r = position_means p es i e in absurd (true≢false (sym r.1.1 ∙ h i r.0 r.1.0)))

-- the first one of a list with one more
pub position_more : {A : Type 0} (p : A → Bool) (es : List A) (x : A) → position p (es ++ x ∷ []) ≡ or_else (p x) (length es) (position p es)
position_more {A} p es x = by (position p es) refl (p x) refl
  where
    old : (i : ℕ) → position p es ≡ Some i → position p (es ++ x ∷ []) ≡ Some i
    old i e =
        let r : (f : A) × IsFirst p es i f = position_means p es i e in
        let l : i < length es = slice_get_within es i r.0 r.1.0 in
        position_is p (es ++ x ∷ []) i r.0 (
          within_more es x r.0 i r.1.0,
          r.1.1,
          λ j f lt at.
              elim (end_at es x f j at) [
                | inl h ↦ r.1.2 j f lt h
                | inr h ↦ absurd (omega (arith, lt, h.1, l))
              ],
        )

    by : (o : Option ℕ) → position p es ≡ o → (b : Bool) → p x ≡ b → position p (es ++ x ∷ []) ≡ or_else b (length es) o
    by (Some i) e true g = old i e
    by (Some i) e false g = old i e
    by None e true g =
        position_is p (es ++ x ∷ []) (length es) x (
          at_end es x,
          g,
          λ j f lt at.
              elim (end_at es x f j at) [
                | inl h ↦ none_passes p es e j f h
                | inr h ↦ absurd (omega (arith, lt, h.1))
              ],
        )
    by None e false g = position_none p (es ++ x ∷ []) (λ j f at. elim (end_at es x f j at) [ inl h ↦ none_passes p es e j f h | inr h ↦ ap p h.0 ∙ g ])
