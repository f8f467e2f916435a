-- Tables of texts in which no text stands twice, with more texts behind.
use Rattle.std.proofs.Common.{◌≡◌, ◌⊎◌, ℕ, zero, suc, Bool, true, false, ◌||◌, List, [], ◌∷◌, ◌++◌, length, slice_get, Some, refl, sym, ap, ◌∙◌, inl, inr}
use Rattle.std.specs.Prelude.{bytes_eq, if◌then◌else◌}
use Rattle.std.specs.List.{list_any}
use Rattle.std.proofs.lemmas.List.{append-nil, append_assoc}
use Rattle.std.proofs.lemmas.Bool.{true≢false}
use Rattle.std.proofs.lemmas.Slice.Eq.{bytes_eq-Decides}
use Rattle.cr_base.specs.NameTable.{IsDistinct, with_text}

not_among : (text : List ℕ) (texts : List (List ℕ)) (i : ℕ) → list_any (bytes_eq text) texts ≡ false → slice_get texts i ≡ Some text → ⊥
not_among text [] i h e = cc
not_among text (x ∷ xs) zero h e =
    let same : text ≡ x = cc in
    let test : bytes_eq text x ≡ true = (bytes_eq-Decides text x).1 same in
    true≢false (sym (ap (λ b. b || list_any (bytes_eq text) xs) test) ∙ h)
not_among text (x ∷ xs) (suc i) h e = by (bytes_eq text x) refl (λ g. not_among text xs i g e)
  where
    by : (b : Bool) → bytes_eq text x ≡ b → (list_any (bytes_eq text) xs ≡ false → ⊥) → ⊥
    by true t rest = true≢false (sym (ap (λ b. b || list_any (bytes_eq text) xs) t) ∙ h)
    by false t rest = rest (sym (ap (λ b. b || list_any (bytes_eq text) xs) t) ∙ h)

behind : {X : Type 0} (xs : List X) (y t : X) (i : ℕ) → slice_get (xs ++ y ∷ []) i ≡ Some t → (slice_get xs i ≡ Some t) ⊎ ((i ≡ length xs) × (y ≡ t))
behind [] y t zero e = inr (refl, cc)
behind [] y t (suc i) e = let bad : ⊥ = cc in absurd bad
behind (x ∷ xs) y t zero e = inl e
behind (x ∷ xs) y t (suc i) e = elim (behind xs y t i e) [ inl h ↦ inl h | inr h ↦ inr (ap suc h.0, h.1) ]

distinct_behind : (texts : List (List ℕ)) (text : List ℕ) → list_any (bytes_eq text) texts ≡ false → IsDistinct texts → IsDistinct (texts ++ text ∷ [])
distinct_behind texts text h d i j t at_i at_j =
    elim (behind texts text t i at_i) [
      | inl left ↦ elim (behind texts text t j at_j) [
        | inl right ↦ d i j t left right
        | inr right ↦ absurd (not_among text texts i h (left ∙ ap (λ x. Some x) (sym right.1)))
      ]
      | inr left ↦ elim (behind texts text t j at_j) [
        | inl right ↦ absurd (not_among text texts j h (right ∙ ap (λ x. Some x) (sym left.1)))
        | inr right ↦ left.0 ∙ sym right.0
      ]
    ]

pub with_distinct : (texts : List (List ℕ)) (text : List ℕ) → IsDistinct texts → IsDistinct (with_text texts text)
with_distinct texts text d = by (list_any (bytes_eq text) texts) refl
  where
    by : (b : Bool) → list_any (bytes_eq text) texts ≡ b → IsDistinct (if b then texts else texts ++ text ∷ [])
    by true e = d
    by false e = distinct_behind texts text e d

-- a table that begins with another
abbrev pub Extends : List (List ℕ) → List (List ℕ) → Type 0
Extends old new = (rest : List (List ℕ)) × (new ≡ old ++ rest)

pub extends_text : (texts : List (List ℕ)) (text : List ℕ) → Extends texts (with_text texts text)
extends_text texts text = by (list_any (bytes_eq text) texts)
  where
    by : (b : Bool) → Extends texts (if b then texts else texts ++ text ∷ [])
    by true = ([], sym (append-nil texts))
    by false = (text ∷ [], refl)

pub extends_more : (a b c : List (List ℕ)) → Extends a b → Extends b c → Extends a c
extends_more a b c (xs, e) (ys, f) = (xs ++ ys, f ∙ ap (λ l. l ++ ys) e ∙ append_assoc a xs ys)
