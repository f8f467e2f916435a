-- Elements of lists that grow.
use Rattle.std.specs.Prelude.{◌≡◌, ◌⊎◌, ℕ, zero, suc, ◌+◌, ◌<◌, ◌≤◌, Bool, true, false, cond, ◌&&◌, ◌||◌, if◌then◌else◌, Some, List, [], ◌∷◌, ◌++◌, length, map, filter, slice_get, Contains}
use Rattle.std.specs.List.{list_any, find}
use Rattle.std.proofs.Common.{refl, sym, ◌∙◌, ap, subst, inl, inr, arith, length-append}
use Rattle.std.proofs.lemmas.List.Elements.{Contains-append_cases}

module _ {A : Type 0} where
  pub in_tail : (y x : A) (xs : List A) → Contains xs x → Contains (y ∷ xs) x
  in_tail y x xs c = (suc c.0, omega (arith, c.1), c.2)

  -- an element is the first one or stands behind it
  pub head_or_tail : (y x : A) (xs : List A) → Contains (y ∷ xs) x → (y ≡ x) ⊎ Contains xs x
  head_or_tail y x xs (zero, w, e) = inl e
  head_or_tail y x xs (suc n, w, e) = inr (n, omega (arith, w), e)

  pub only_one : (x m : A) → Contains (x ∷ []) m → x ≡ m
  only_one x m c = elim (head_or_tail x m [] c) [ inl k ↦ k | inr k ↦ absurd (omega (arith, k.1)) ]

  pub nothing_in : {P : Type 0} (x : A) → Contains [] x → P
  nothing_in x c = absurd (omega (arith, c.1))

  -- what holds of all elements, and of further ones
  pub all_more : (P : A → Type 0) (xs ys : List A) → ((x : A) → Contains xs x → P x) → ((x : A) → Contains ys x → P x) → (x : A) → Contains (xs ++ ys) x → P x
  all_more P xs ys h k x c = elim (Contains-append_cases xs ys x c) [ inl d ↦ h x d | inr d ↦ k x d ]

  pub all_and : (P : A → Type 0) (xs : List A) (y : A) → ((x : A) → Contains xs x → P x) → P y → (x : A) → Contains (xs ++ y ∷ []) x → P x
  all_and P xs y h k = all_more P xs (y ∷ []) h (λ x c. subst P (only_one y x c) k)

  pub longer : (xs ys : List A) → length xs ≤ length (xs ++ ys)
  longer xs ys = let e : length (xs ++ ys) ≡ length xs + length ys = length-append xs ys in omega (arith, e)

  pub longer_by_one : (xs : List A) (y : A) → length xs < length (xs ++ y ∷ [])
  longer_by_one xs y = let e : length (xs ++ y ∷ []) ≡ length xs + 1 = length-append xs (y ∷ []) in omega (arith, e)

  pub left_get : (xs ys : List A) (i : ℕ) (x : A) → slice_get xs i ≡ Some x → slice_get (xs ++ ys) i ≡ Some x
  left_get [] ys i x h = cc
  left_get (y ∷ xs) ys zero x h = h
  left_get (y ∷ xs) ys (suc i) x h = left_get xs ys i x h

  pub get_contains : (xs : List A) (i : ℕ) (x : A) → slice_get xs i ≡ Some x → Contains xs x
  get_contains [] i x h = cc
  get_contains (y ∷ xs) zero x h = (0, omega arith, (let e : y ≡ x = cc in e))
  get_contains (y ∷ xs) (suc i) x h = in_tail y x xs (get_contains xs i x h)

  -- ---- filters and searches

  pub passed_of : (p : A → Bool) (xs : List A) (x : A) → Contains (filter p xs) x → Contains xs x × (p x ≡ true)
  passed_of p [] x c = absurd (omega (arith, c.1))
  passed_of p (y ∷ xs) x c = by (p y) refl c (λ d. passed_of p xs x d)
    where
      by : (b : Bool) → p y ≡ b → Contains (if b then y ∷ filter p xs else filter p xs) x → (Contains (filter p xs) x → Contains xs x × (p x ≡ true)) → Contains (y ∷ xs) x × (p x ≡ true)
      by true q d more = elim (head_or_tail y x (filter p xs) d) [
        | inl e ↦ ((0, omega arith, e), ap p (sym e) ∙ q)
        | inr d ↦ (let m : Contains xs x × (p x ≡ true) = more d in (in_tail y x xs m.0, m.1))
      ]
      by false q d more = let m : Contains xs x × (p x ≡ true) = more d in (in_tail y x xs m.0, m.1)

  pub passing : (p : A → Bool) (xs : List A) (x : A) → Contains xs x → p x ≡ true → Contains (filter p xs) x
  passing p [] x c h = absurd (omega (arith, c.1))
  passing p (y ∷ xs) x c h = by (head_or_tail y x xs c) (p y) refl (λ d. passing p xs x d h)
    where
      by : (y ≡ x) ⊎ Contains xs x → (b : Bool) → p y ≡ b → (Contains xs x → Contains (filter p xs) x) → Contains (if b then y ∷ filter p xs else filter p xs) x
      by (inl e) true q more = (0, omega arith, e)
      by (inl e) false q more = let k : true ≡ false = sym h ∙ ap p (sym e) ∙ q in cc
      by (inr d) true q more = in_tail y x (filter p xs) (more d)
      by (inr d) false q more = more d

  pub any_of : (p : A → Bool) (xs : List A) (x : A) → Contains xs x → p x ≡ true → list_any p xs ≡ true
  any_of p [] x c h = absurd (omega (arith, c.1))
  any_of p (y ∷ xs) x c h = by (head_or_tail y x xs c) (λ d. any_of p xs x d h)
    where
      right : (a : Bool) → (a || true) ≡ true
      right true = refl
      right false = refl

      by : (y ≡ x) ⊎ Contains xs x → (Contains xs x → list_any p xs ≡ true) → (p y || list_any p xs) ≡ true
      by (inl e) more = ap (λ b. b || list_any p xs) (ap p e ∙ h)
      by (inr d) more = ap (λ b. p y || b) (more d) ∙ right (p y)

  pub found_there : (p : A → Bool) (xs : List A) (x : A) → find p xs ≡ Some x → Contains xs x × (p x ≡ true)
  found_there p [] x h = cc
  found_there p (y ∷ xs) x h = by (p y) refl h (λ k. found_there p xs x k)
    where
      by : (b : Bool) → p y ≡ b → cond b (Some y) (find p xs) ≡ Some x → (find p xs ≡ Some x → Contains xs x × (p x ≡ true)) → Contains (y ∷ xs) x × (p x ≡ true)
      by true q h more = let e : y ≡ x = cc in ((0, omega arith, e), ap p (sym e) ∙ q)
      by false q h more = let m : Contains xs x × (p x ≡ true) = more h in (in_tail y x xs m.0, m.1)

pub mapped_get : {A B : Type 0} (f : A → B) (xs : List A) (k : ℕ) (y : B) → slice_get (map f xs) k ≡ Some y → (x : A) × (slice_get xs k ≡ Some x) × (f x ≡ y)
mapped_get f [] k y h = cc
mapped_get f (x ∷ xs) zero y h = let e : f x ≡ y = cc in (x, refl, e)
mapped_get f (x ∷ xs) (suc k) y h = mapped_get f xs k y h

pub and_both : (a b : Bool) → (a && b) ≡ true → (a ≡ true) × (b ≡ true)
and_both true b h = (refl, h)
and_both false b h = cc
