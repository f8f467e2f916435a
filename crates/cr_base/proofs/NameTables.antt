-- Lists of texts in which no text stands twice.
use Rattle.std.proofs.Common.{◌≡◌, ℕ, ◌+◌, ◌<◌, Bool, true, false, not, cond, List, [], ◌∷◌, ◌++◌, length, map, slice_get, take, Some, None, refl, sym, ap, ◌∙◌, subst, true≢false, arith, zero, suc, nat_lt, ◌||◌, ◌⊎◌, inl, inr}
use Rattle.std.specs.Prelude.{bytes_eq, if◌then◌else◌}
use Rattle.std.specs.List.{list_any, position_or_len, position}
use Rattle.std.proofs.lemmas.Slice.Eq.{bytes_eq-Decides}
use Rattle.std.proofs.lemmas.Option.{slice_get-map}
use Rattle.std.specs.Option.{option_map}
use Rattle.std.proofs.lemmas.Bool.{ltb-true, lt-ltb}
use Prim.Native.Nat.compare
use Rattle.cr_base.specs.NameTable.{IsDistinct, with_text}

-- a list without the text holds it nowhere
pub not_among : (text : List ℕ) (texts : List (List ℕ)) (i : ℕ) → list_any (bytes_eq text) texts ≡ false → slice_get texts i ≡ Some text → ⊥
not_among text [] i h e = cc
not_among text (x ∷ xs) zero h e =
    let same : text ≡ x = cc in
    let test : bytes_eq text x ≡ true = (bytes_eq-Decides text x).1 same in
    true≢false (sym (ap (λ b. b || list_any (bytes_eq text) xs) test) ∙ h)
not_among text (x ∷ xs) (suc i) h e = by (bytes_eq text x) refl (λ g. not_among text xs i g e)
  where
    by : (b : Bool) → bytes_eq text x ≡ b → (list_any (bytes_eq text) xs ≡ false → ⊥) → ⊥
    by true t rest = true≢false (sym (ap (λ b. b || list_any (bytes_eq text) xs) t) ∙ h)
    by false t rest = rest (sym (ap (λ b. b || list_any (bytes_eq text) xs) t) ∙ h)

-- an element of a list with one more is one of the list, or the last
pub slice_get-push : {X : Type 0} (xs : List X) (y t : X) (i : ℕ) → slice_get (xs ++ y ∷ []) i ≡ Some t → (slice_get xs i ≡ Some t) ⊎ ((i ≡ length xs) × (y ≡ t))
slice_get-push [] y t zero e = inr (refl, cc)
slice_get-push [] y t (suc i) e = let no : ⊥ = cc in absurd no
slice_get-push (x ∷ xs) y t zero e = inl e
slice_get-push (x ∷ xs) y t (suc i) e = elim (slice_get-push xs y t i e) [ inl h ↦ inl h | inr h ↦ inr (ap suc h.0, h.1) ]

pub IsDistinct-push : (texts : List (List ℕ)) (text : List ℕ) → list_any (bytes_eq text) texts ≡ false → IsDistinct texts → IsDistinct (texts ++ text ∷ [])
IsDistinct-push texts text h d i j t at_i at_j =
    elim (slice_get-push texts text t i at_i) [
      | inl left ↦ elim (slice_get-push texts text t j at_j) [
        | inl right ↦ d i j t left right
        | inr right ↦ absurd (not_among text texts i h (left ∙ ap (λ x. Some x) (sym right.1)))
      ]
      | inr left ↦ elim (slice_get-push texts text t j at_j) [
        | inl right ↦ absurd (not_among text texts j h (right ∙ ap (λ x. Some x) (sym left.1)))
        | inr right ↦ left.0 ∙ sym right.0
      ]
    ]

module _ {V : Type 0} (f : V → List ℕ) (text : List ℕ) where
  pub list_any-map : (ks : List V) → list_any (bytes_eq text) (map f ks) ≡ list_any (λ k. bytes_eq text (f k)) ks
  list_any-map [] = refl
  list_any-map (k ∷ ks) = ap (λ b. bytes_eq text (f k) || b) (list_any-map ks)

  pub at_first : (ks : List V) → position_or_len (λ k. bytes_eq text (f k)) ks < length ks → slice_get (map f ks) (position_or_len (λ k. bytes_eq text (f k)) ks) ≡ Some text
  at_first [] h = absurd (omega arith)
  at_first (k ∷ ks) h = by (bytes_eq text (f k)) refl (λ g. at_first ks g) h
    where
      by : (b : Bool) → bytes_eq text (f k) ≡ b → (position_or_len (λ k. bytes_eq text (f k)) ks < length ks → slice_get (map f ks) (position_or_len (λ k. bytes_eq text (f k)) ks) ≡ Some text) → cond (not b) (1 + position_or_len (λ k. bytes_eq text (f k)) ks) 0 < length (k ∷ ks) → slice_get (f k ∷ map f ks) (cond (not (bytes_eq text (f k))) (1 + position_or_len (λ k. bytes_eq text (f k)) ks) 0) ≡ Some text
      by true t rest g = rw t (ap (λ x. Some x) (sym ((bytes_eq-Decides text (f k)).0 t)))
      by false t rest g =
          let e : 1 + position_or_len (λ k. bytes_eq text (f k)) ks ≡ suc (position_or_len (λ k. bytes_eq text (f k)) ks) = omega arith in
          rw (t, e) (rest (omega arith))

  pub any_at_first : (ks : List V) → list_any (λ k. bytes_eq text (f k)) ks ≡ nat_lt (position_or_len (λ k. bytes_eq text (f k)) ks) (length ks)
  any_at_first [] = refl
  any_at_first (k ∷ ks) = by (bytes_eq text (f k)) refl (any_at_first ks)
    where
      by : (b : Bool) → bytes_eq text (f k) ≡ b → list_any (λ k. bytes_eq text (f k)) ks ≡ nat_lt (position_or_len (λ k. bytes_eq text (f k)) ks) (length ks) → (bytes_eq text (f k) || list_any (λ k. bytes_eq text (f k)) ks) ≡ nat_lt (cond (not (bytes_eq text (f k))) (1 + position_or_len (λ k. bytes_eq text (f k)) ks) 0) (suc (length ks))
      by true t rest = rw t (sym (lt-ltb 0 (suc (length ks)) (omega arith)))
      by false t rest =
          let e : 1 + position_or_len (λ k. bytes_eq text (f k)) ks ≡ suc (position_or_len (λ k. bytes_eq text (f k)) ks) = omega arith in
          rw (t, e, compare.suc-suc) rest

  pub position-found : (ks : List V) (i : ℕ) → position (λ k. bytes_eq text (f k)) ks ≡ Some i → (slice_get (map f ks) i ≡ Some text) × (list_any (bytes_eq text) (map f ks) ≡ true)
  position-found ks i e = by (nat_lt (position_or_len (λ k. bytes_eq text (f k)) ks) (length ks)) refl e
    where
      by : (b : Bool) → nat_lt (position_or_len (λ k. bytes_eq text (f k)) ks) (length ks) ≡ b → cond b (Some (position_or_len (λ k. bytes_eq text (f k)) ks)) None ≡ Some i → (slice_get (map f ks) i ≡ Some text) × (list_any (bytes_eq text) (map f ks) ≡ true)
      by true t g =
          let here : position_or_len (λ k. bytes_eq text (f k)) ks ≡ i = cc in
          (subst (λ n. slice_get (map f ks) n ≡ Some text) here (at_first ks (ltb-true _ _ t)), list_any-map ks ∙ any_at_first ks ∙ t)
      by false t g = let no : ⊥ = cc in absurd no

  -- the texts after a new one was inserted
  pub inserted : (ks grown : List V) (v : V) → f v ≡ text → list_any (λ k. bytes_eq text (f k)) ks ≡ false
      → grown ≡ (if list_any (λ k. bytes_eq (f v) (f k)) ks then ks else ks ++ v ∷ [])
      → map f grown ≡ map f ks ++ text ∷ []
  inserted ks grown v same fresh e =
      let none : list_any (λ k. bytes_eq (f v) (f k)) ks ≡ false = rw same fresh in
      let last : grown ≡ ks ++ v ∷ [] = e ∙ ap (λ b. if b then ks else ks ++ v ∷ []) none in
      ap (map f) last ∙ map-push ks v ∙ ap (λ t. map f ks ++ t ∷ []) same
    where
      map-push : (xs : List V) (y : V) → map f (xs ++ y ∷ []) ≡ map f xs ++ f y ∷ []
      map-push [] y = refl
      map-push (x ∷ xs) y = ap (λ l. f x ∷ l) (map-push xs y)

  -- a key that is equal to the text stands among the texts as the text
  pub stored : (ks : List V) (v k : V) (i : ℕ) → f v ≡ text → slice_get ks i ≡ Some k → bytes_eq (f v) (f k) ≡ true → slice_get (map f ks) i ≡ Some text
  stored ks v k i same at e =
      slice_get-map f ks i ∙ ap (option_map f) at ∙ ap (λ t. Some t) (sym ((bytes_eq-Decides (f v) (f k)).0 e) ∙ same)

-- an element of the first ones of a list is one of the list
pub slice_get-take : {X : Type 0} (n : ℕ) (xs : List X) (i : ℕ) (x : X) → slice_get (take n xs) i ≡ Some x → slice_get xs i ≡ Some x
slice_get-take zero xs i x e = let no : ⊥ = cc in absurd no
slice_get-take (suc n) [] i x e = e
slice_get-take (suc n) (y ∷ xs) zero x e = e
slice_get-take (suc n) (y ∷ xs) (suc i) x e = slice_get-take n xs i x e

pub IsDistinct-take : (n : ℕ) (texts : List (List ℕ)) → IsDistinct texts → IsDistinct (take n texts)
IsDistinct-take n texts d i j t at_i at_j = d i j t (slice_get-take n texts i t at_i) (slice_get-take n texts j t at_j)

pub IsDistinct-more : (texts : List (List ℕ)) (text : List ℕ) → IsDistinct texts → IsDistinct (with_text texts text)
IsDistinct-more texts text d = by (list_any (bytes_eq text) texts) refl
  where
    by : (b : Bool) → list_any (bytes_eq text) texts ≡ b → IsDistinct (if b then texts else texts ++ text ∷ [])
    by true e = d
    by false e = IsDistinct-push texts text e d
