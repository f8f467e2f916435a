-- What is read by its names stays as it was when the table of names grows, and how the table grows by a text.
use Rattle.std.proofs.Common.{◌≡◌, ℕ, ◌<◌, ◌≤◌, List, [], ◌∷◌, ◌++◌, length, get_or, refl, ap, ◌∙◌, arith, length-append, Bool, true, false, cond, slice_get, Some, sym, subst, true≢false, zero, suc, ◌||◌, ◌⊎◌, inl, inr, append-nil, append_assoc}
use Rattle.std.proofs.lemmas.List.{get_or_append_left}
use Rattle.cr_base.specs.declared.token.Name.{Name}
use Rattle.cr_base.specs.declared.token.PpTok.{PpTok}
use Rattle.cr_macros.specs.Definition.{text_of}
use Rattle.cr_macros.specs.Tokens.{Text, token_of, tokens_of}
use Rattle.cr_expand.specs.HideSets.{Grows}
use Rattle.cr_expand.specs.Held.{IsNamed as IsNameKnown}
use Rattle.cr_preproc.specs.Seen.{IsNamed, AreNamed}
use Rattle.std.specs.Prelude.{bytes_eq}
use Rattle.std.specs.List.{All, list_any}
use Rattle.std.proofs.lemmas.Slice.Eq.{bytes_eq-Decides}
use Rattle.cr_base.specs.NameTable.{IsDistinct, Interns, with_text}
use Rattle.cr_lex.specs.Lexing as lexing
use Rattle.cr_lex.specs.Seen.{with_texts, first_of}

pub grows_none : (names : List Text) → Grows names names
grows_none names = ([], sym (append-nil names))

pub grows_more : (a b c : List Text) → Grows a b → Grows b c → Grows a c
grows_more a b c (xs, e) (ys, f) = (xs ++ ys, f ∙ ap (λ l. l ++ ys) e ∙ append_assoc a xs ys)

pub with_grows : (names : List Text) (text : Text) → Grows names (with_text names text)
with_grows names text = by (list_any (bytes_eq text) names) where
  by : (b : Bool) → Grows names (cond b names (names ++ text ∷ []))
  by true = grows_none names
  by false = (text ∷ [], refl)

pub interns_grows : (names : List Text) (text : Text) (new : List Text) (n : ℕ) → Interns names text new n → Grows names new
interns_grows names text new n i = let g = with_grows names text in (g.0, i.0 ∙ g.1)

-- a list without the text holds it nowhere
not_among : (text : Text) (texts : List Text) (i : ℕ) → list_any (bytes_eq text) texts ≡ false → slice_get texts i ≡ Some text → ⊥
not_among text [] i h e = cc
not_among text (x ∷ xs) zero h e =
    let same : text ≡ x = cc in
    let test : bytes_eq text x ≡ true = (bytes_eq-Decides text x).1 same in
    true≢false (sym (ap (λ b. b || list_any (bytes_eq text) xs) test) ∙ h)
not_among text (x ∷ xs) (suc i) h e = by (bytes_eq text x) refl (λ g. not_among text xs i g e)
  where
    by : (b : Bool) → bytes_eq text x ≡ b → (list_any (bytes_eq text) xs ≡ false → ⊥) → ⊥
    by true t rest = true≢false (sym (ap (λ b. b || list_any (bytes_eq text) xs) t) ∙ h)
    by false t rest = rest (sym (ap (λ b. b || list_any (bytes_eq text) xs) t) ∙ h)

-- an element of a list with one more is one of the list, or the last
get_behind : (xs : List Text) (y t : Text) (i : ℕ) → slice_get (xs ++ y ∷ []) i ≡ Some t → (slice_get xs i ≡ Some t) ⊎ ((i ≡ length xs) × (y ≡ t))
get_behind [] y t zero e = inr (refl, cc)
get_behind [] y t (suc i) e = let no : ⊥ = cc in absurd no
get_behind (x ∷ xs) y t zero e = inl e
get_behind (x ∷ xs) y t (suc i) e = elim (get_behind xs y t i e) [ inl h ↦ inl h | inr h ↦ inr (ap suc h.0, h.1) ]

distinct_behind : (texts : List Text) (text : Text) → list_any (bytes_eq text) texts ≡ false → IsDistinct texts → IsDistinct (texts ++ text ∷ [])
distinct_behind texts text h d i j t at_i at_j =
    elim (get_behind texts text t i at_i) [
      | inl left ↦ elim (get_behind texts text t j at_j) [
        | inl right ↦ d i j t left right
        | inr right ↦ absurd (not_among text texts i h (left ∙ ap (λ x. Some x) (sym right.1)))
      ]
      | inr left ↦ elim (get_behind texts text t j at_j) [
        | inl right ↦ absurd (not_among text texts j h (right ∙ ap (λ x. Some x) (sym left.1)))
        | inr right ↦ left.0 ∙ sym right.0
      ]
    ]

with_distinct : (names : List Text) (text : Text) → IsDistinct names → IsDistinct (with_text names text)
with_distinct names text d = by (list_any (bytes_eq text) names) refl where
  by : (b : Bool) → list_any (bytes_eq text) names ≡ b → IsDistinct (cond b names (names ++ text ∷ []))
  by true e = d
  by false e = distinct_behind names text e d

pub first_grows : (names new : List Text) (ts : List lexing.Token) → new ≡ with_texts names (first_of ts) → Grows names new
first_grows names new [] e = ([], e ∙ sym (append-nil names))
first_grows names new (t ∷ ts) e = let g = with_grows names t.text in (g.0, e ∙ g.1)

pub first_distinct : (names new : List Text) (ts : List lexing.Token) → new ≡ with_texts names (first_of ts) → IsDistinct names → IsDistinct new
first_distinct names new [] e d = let P : List Text → Type 0 = λ l. IsDistinct l in subst P (sym e) d
first_distinct names new (t ∷ ts) e d = let P : List Text → Type 0 = λ l. IsDistinct l in subst P (sym e) (with_distinct names t.text d)

pub longer : (names new : List Text) → Grows names new → length names ≤ length new
longer names new g = let a = ap length g.1 in let b = length-append names g.0 in omega (arith, a, b)

pub text_later : (names new : List Text) (n : Name) → Grows names new → IsNameKnown names n → text_of new n ≡ text_of names n
text_later names new n g h = ap (λ l. get_or l n.0 []) g.1 ∙ get_or_append_left names g.0 [] n.0 h

pub known_later : (names new : List Text) (n : Name) → Grows names new → IsNameKnown names n → IsNameKnown new n
known_later names new n g h = let l = longer names new g in omega (arith, h, l)

pub token_later : (names new hide : List Text) (t : PpTok) → Grows names new → IsNamed names t → token_of new hide t ≡ token_of names hide t
token_later names new hide t g h =
    ap {A = Text} (λ x. record { kind = t.kind; text = x; origin = t.origin; site = t.site; line = t.line; end = t.end; space = t.space; first = t.first; joined = t.joined; hide = hide }) (text_later names new t.text g h)

pub tokens_later : (names new : List Text) (ts : List PpTok) → Grows names new → AreNamed names ts → tokens_of new ts ≡ tokens_of names ts
tokens_later names new [] g h = refl
tokens_later names new (t ∷ ts) g h =
    ap (λ x. x ∷ tokens_of new ts) (token_later names new [] t g h.0) ∙ ap (λ l. token_of names [] t ∷ l) (tokens_later names new ts g h.1)

pub all_named_later : (names new : List Text) (ts : List PpTok) → Grows names new → AreNamed names ts → AreNamed new ts
all_named_later names new [] g h = tt
all_named_later names new (t ∷ ts) g h = (known_later names new t.text g h.0, all_named_later names new ts g h.1)

pub all_named : (names : List Text) (ts : List PpTok) → AreNamed names ts → All (λ t. t.text.0 < length names) ts
all_named names [] h k d l = absurd (omega arith)
all_named names (t ∷ ts) h zero d l = h.0
all_named names (t ∷ ts) h (suc k) d l = all_named names ts h.1 k d (omega arith)
