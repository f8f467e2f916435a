-- What lists that are mapped, filtered or flattened contain.
use Rattle.std.proofs.Common.{◌≡◌, inl, inr, ℕ, zero, suc, Bool, true, false, ◌&&◌, cond, Some, List, [], ◌∷◌, map, refl, sym, ap, subst, ◌∙◌, arith}
use Rattle.std.specs.Prelude.{slice_get, filter, flat_map, Contains}
use Rattle.std.specs.List.{find}
use Rattle.std.proofs.lemmas.List.Elements.{Contains-append_left, Contains-append_right, Contains-append_cases}
use Rattle.cr_groups.proofs.Taken.{mapped, to_mapped}
use Rattle.cr_conflicts.proofs.Mentioned.{at, from_at}

pub in_map : {A B : Type 0} (g : A → B) (xs : List A) (y : B) → Contains (map g xs) y → (j : ℕ) × (x : A) × (slice_get xs j ≡ Some x) × (y ≡ g x)
in_map g xs y h = (let r = mapped g xs h.0 y (from_at (map g xs) y h) in (h.0, r.0, r.1, r.2))

pub to_map : {A B : Type 0} (g : A → B) (xs : List A) (j : ℕ) (x : A) → slice_get xs j ≡ Some x → Contains (map g xs) (g x)
to_map g xs j x h = at (map g xs) j (g x) (to_mapped g xs j x h)

-- an element of a longer list
later : {A : Type 0} (x : A) (xs : List A) (y : A) → Contains xs y → Contains (x ∷ xs) y
later x xs y h = Contains-append_right (x ∷ []) xs y h

pub in_flat : {A B : Type 0} (g : A → List B) (xs : List A) (y : B) → Contains (flat_map g xs) y → (j : ℕ) × (x : A) × (slice_get xs j ≡ Some x) × Contains (g x) y
in_flat g [] y h = absurd (omega (arith, h.1))
in_flat g (x ∷ xs) y h =
    elim (Contains-append_cases (g x) (flat_map g xs) y h) [
      | inl k ↦ (0, x, refl, k)
      | inr k ↦ (let r = in_flat g xs y k in (suc r.0, r.1, r.2, r.3))
    ]

pub to_flat : {A B : Type 0} (g : A → List B) (xs : List A) (j : ℕ) (x : A) (y : B) → slice_get xs j ≡ Some x → Contains (g x) y → Contains (flat_map g xs) y
to_flat g [] j x y h k = cc
to_flat {A} {B} g (z ∷ zs) zero x y h k =
    let e : z ≡ x = cc in
    Contains-append_left (g z) (flat_map g zs) y (subst (λ w. Contains (g w) y) (sym e) k)
to_flat g (z ∷ zs) (suc j) x y h k = Contains-append_right (g z) (flat_map g zs) y (to_flat g zs j x y h k)

pub in_filter : {A : Type 0} (p : A → Bool) (xs : List A) (y : A) → Contains (filter p xs) y → (j : ℕ) × (slice_get xs j ≡ Some y) × (p y ≡ true)
in_filter p [] y h = absurd (omega (arith, h.1))
in_filter {A} p (x ∷ xs) y h = by (p x) refl h (in_filter p xs y)
  where
    by : (b : Bool) → p x ≡ b → Contains (cond b (x ∷ filter p xs) (filter p xs)) y → (Contains (filter p xs) y → (j : ℕ) × (slice_get xs j ≡ Some y) × (p y ≡ true)) → (j : ℕ) × (slice_get (x ∷ xs) j ≡ Some y) × (p y ≡ true)
    by false e k more = (let r = more k in (suc r.0, r.1, r.2))
    by true e k more =
        elim (Contains-append_cases (x ∷ []) (filter p xs) y k) [
          | inl m ↦ (let s : slice_get (x ∷ []) m.0 ≡ Some y = from_at (x ∷ []) y m in first m.0 s)
          | inr m ↦ (let r = more m in (suc r.0, r.1, r.2))
        ]
      where
        first : (j : ℕ) → slice_get (x ∷ []) j ≡ Some y → (j : ℕ) × (slice_get (x ∷ xs) j ≡ Some y) × (p y ≡ true)
        first zero s = (let q : x ≡ y = cc in (0, ap Some q, ap p (sym q) ∙ e))
        first (suc j) s = cc

pub to_filter : {A : Type 0} (p : A → Bool) (xs : List A) (j : ℕ) (y : A) → slice_get xs j ≡ Some y → p y ≡ true → Contains (filter p xs) y
to_filter p [] j y h e = cc
to_filter {A} p (x ∷ xs) zero y h e =
    let q : x ≡ y = cc in
    subst (λ b. Contains (cond b (x ∷ filter p xs) (filter p xs)) y) (sym (ap p q ∙ e))
    (Contains-append_left (x ∷ []) (filter p xs) y (at (x ∷ []) 0 y (ap Some q)))
to_filter {A} p (x ∷ xs) (suc j) y h e = by (p x) (to_filter p xs j y h e)
  where
    by : (b : Bool) → Contains (filter p xs) y → Contains (cond b (x ∷ filter p xs) (filter p xs)) y
    by true k = Contains-append_right (x ∷ []) (filter p xs) y k
    by false k = k

-- what is found among those that pass is found by both tests
pub find_filter : {A : Type 0} (p q : A → Bool) (xs : List A) → find q (filter p xs) ≡ find (λ x. p x && q x) xs
find_filter p q [] = refl
find_filter {A} p q (x ∷ xs) = by (p x) refl (q x) refl (find_filter p q xs)
  where
    by : (b : Bool) → p x ≡ b → (c : Bool) → q x ≡ c → find q (filter p xs) ≡ find (λ y. p y && q y) xs → find q (cond (p x) (x ∷ filter p xs) (filter p xs)) ≡ cond (p x && q x) (Some x) (find (λ y. p y && q y) xs)
    by true e c g h =
        ap (λ b. find q (cond b (x ∷ filter p xs) (filter p xs))) e
        ∙ ap (λ r. cond (q x) (Some x) r) h
        ∙ sym (ap (λ b. cond (b && q x) (Some x) (find (λ y. p y && q y) xs)) e)
    by false e c g h =
        ap (λ b. find q (cond b (x ∷ filter p xs) (filter p xs))) e ∙ h
        ∙ sym (ap (λ b. cond (b && q x) (Some x) (find (λ y. p y && q y) xs)) e)
