-- Lists that begin with others.
use Rattle.std.specs.Prelude.{◌≡◌, ℕ, zero, suc, ◌+◌, ◌<◌, Some, List, [], ◌∷◌, ◌++◌, length, take, slice_get, Contains}
use Rattle.std.proofs.Common.{refl, sym, ◌∙◌, ap, subst, arith, add-one}
use Rattle.std.proofs.lemmas.List.{append_assoc, append-nil}
use Rattle.std.proofs.lemmas.List.Elements.{Contains-append_left, Contains-append_right}
use Rattle.cr_binding.specs.BindingGrows.{Extends}

module _ {A : Type 0} where
  pub still_there : (xs ys : List A) (x : A) → Extends xs ys → Contains xs x → Contains ys x
  still_there xs ys x more h = subst (λ l. Contains l x) (sym more.1) (Contains-append_left xs more.0 x h)

  left_get : (xs ys : List A) (i : ℕ) (x : A) → slice_get xs i ≡ Some x → slice_get (xs ++ ys) i ≡ Some x
  left_get [] ys i x h = cc
  left_get (y ∷ xs) ys zero x h = h
  left_get (y ∷ xs) ys (suc i) x h = left_get xs ys i x h

  pub still_at : (xs ys : List A) (i : ℕ) (x : A) → Extends xs ys → slice_get xs i ≡ Some x → slice_get ys i ≡ Some x
  still_at xs ys i x more h = ap (λ l. slice_get l i) more.1 ∙ left_get xs more.0 i x h

  pub contains_last : (xs : List A) (x : A) → Contains (xs ++ x ∷ []) x
  contains_last xs x = Contains-append_right xs (x ∷ []) x (0, omega arith, refl)

  pub last_there : (xs ys : List A) (x : A) → Extends (xs ++ x ∷ []) ys → Contains ys x
  last_there xs ys x more = still_there (xs ++ x ∷ []) ys x more (contains_last xs x)

  front_of : (xs ys : List A) → take (length xs) (xs ++ ys) ≡ xs
  front_of [] ys = refl
  front_of (x ∷ xs) ys = ap (λ l. x ∷ l) (front_of xs ys)

  pub front_taken : (xs ys : List A) → Extends xs ys → take (length xs) ys ≡ xs
  front_taken xs ys more = ap (take (length xs)) more.1 ∙ front_of xs more.0

  longer_by_one : (xs : List A) (x : A) → length (xs ++ x ∷ []) ≡ suc (length xs)
  longer_by_one [] x = refl
  longer_by_one (y ∷ xs) x = ap suc (longer_by_one xs x)

  pub next_taken : (xs ys : List A) (x : A) → Extends (xs ++ x ∷ []) ys → take (length xs + 1) ys ≡ xs ++ x ∷ []
  next_taken xs ys x more =
      ap (λ n. take n ys) (add-one (length xs) ∙ sym (longer_by_one xs x)) ∙ front_taken (xs ++ x ∷ []) ys more

  pub shorter : (xs ys : List A) (x : A) → Extends (xs ++ x ∷ []) ys → length xs < length ys
  shorter xs ys x more =
      subst (λ l. length xs < length l) (sym more.1) (inside xs x more.0)
    where
      inside : (xs : List A) (x : A) (ys : List A) → length xs < length ((xs ++ x ∷ []) ++ ys)
      inside [] x ys = omega arith
      inside (y ∷ xs) x ys = let h : length xs < length ((xs ++ x ∷ []) ++ ys) = inside xs x ys in omega arith

  pub get_contains : (xs : List A) (i : ℕ) (x : A) → slice_get xs i ≡ Some x → Contains xs x
  get_contains [] i x h = cc
  get_contains (y ∷ xs) zero x h = (0, omega arith, (let e : y ≡ x = cc in e))
  get_contains (y ∷ xs) (suc i) x h =
      let c : Contains xs x = get_contains xs i x h in (suc c.0, omega (arith, c.1), c.2)

  pub without_last : (xs ys : List A) (x : A) → Extends (xs ++ x ∷ []) ys → Extends xs ys
  without_last xs ys x more = (x ∷ more.0, more.1 ∙ append_assoc xs (x ∷ []) more.0)

  pub extends_itself : (xs : List A) → Extends xs xs
  extends_itself xs = ([], sym (append-nil xs))
