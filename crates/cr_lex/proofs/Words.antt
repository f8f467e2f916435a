-- The longest part that begins with a letter.
use Rattle.std.proofs.Common.{◌≡◌, ℕ, zero, suc, ◌<◌, ◌≤◌, Bool, true, false, not, ◌&&◌, ◌||◌, List, [], ◌∷◌, length, take, Some, None, refl, ap, ◌∙◌, arith}
use Rattle.std.specs.Prelude.{◌==◌, if◌then◌else◌}
use Rattle.std.specs.List.{list_all}
use Rattle.std.proofs.lemmas.Bool.{and_left, eq-eqb, ne_eqb}
use Rattle.std.proofs.lemmas.Bool.Decides.{nat_tests}
use Rattle.cr_base.specs.Names.{is_word_byte, starts_name}
use Rattle.cr_base.specs.declared.token.PpKind.TheVariants.{Ident, Char, Str}
use Rattle.cr_lex.specs.Spellings.{Piece, part_of, is_quoted, is_quoted_char, is_elements_and, is_behind_u8, starts_with}
use Rattle.cr_lex.specs.Lexing.{longest_part}
use Rattle.cr_lex.specs.Scanning.{run, closing, is_wide}
use Rattle.cr_lex.proofs.Fronts.{run_in, run_out, run_fits, is_at, elements_at, closing_fits}
use Rattle.cr_lex.proofs.Longest.{longest_is, decided, part_by, miss_blank, miss_end, miss_comment, miss_punct}
use Rattle.cr_lex.proofs.Classes.{letter_single, char_closing, char_at, char_fits, miss_number}

abbrev pub word_char : ℕ → List ℕ → Bool
word_char a xs = is_wide a && is_quoted_char xs

abbrev pub word_string : ℕ → List ℕ → Bool
word_string a xs = (is_wide a && is_quoted 34 xs) || is_behind_u8 (is_quoted 34) (a ∷ xs)

pub word_by : (a : ℕ) (xs : List ℕ) → starts_name a ≡ true → part_of (a ∷ xs) ≡ (if list_all is_word_byte xs then Some (Piece Ident) else if word_char a xs then Some (Piece Char) else if word_string a xs then Some (Piece Str) else None)
word_by a xs h =
    part_by (a ∷ xs) (miss_blank a xs (grind (arith, nat_tests))) (miss_end a xs (grind (arith, nat_tests))) (miss_comment a xs (grind (arith, nat_tests)))
    (ap (λ t. t && list_all is_word_byte xs) h) (miss_number a xs (grind (arith, nat_tests)) (grind (arith, nat_tests)))
    (ap (λ t. (t && (not (starts_with 39 xs) && is_elements_and 39 xs)) || (is_wide a && is_quoted_char xs)) single)
    (ap (λ t. ((t && is_elements_and 34 xs) || (is_wide a && is_quoted 34 xs)) || is_behind_u8 (is_quoted 34) (a ∷ xs)) double)
    (miss_punct a xs (letter_single a h))
    ∙ by (list_all is_word_byte xs) (word_char a xs) (word_string a xs)
  where
    single : (a == 39) ≡ false
    single = grind (arith, nat_tests)

    double : (a == 34) ≡ false
    double = grind (arith, nat_tests)

    by : (i c s : Bool) → decided false false false i false c s false ≡ (if i then Some (Piece Ident) else if c then Some (Piece Char) else if s then Some (Piece Str) else None)
    by true c s = refl
    by false true s = refl
    by false false true = refl
    by false false false = refl

-- no front is a literal
abbrev pub HasNoLiteral : ℕ → List ℕ → Type 0
HasNoLiteral a bs = (m : ℕ) → m ≤ length bs → (word_char a (take m bs) ≡ false) × (word_string a (take m bs) ≡ false)

pub longest_word : (a : ℕ) (bs : List ℕ) → starts_name a ≡ true → HasNoLiteral a bs → longest_part (a ∷ bs) ≡ (suc (run is_word_byte bs), Piece Ident)
longest_word a bs h none =
    longest_is a bs (run is_word_byte bs) (Piece Ident) (run_fits is_word_byte bs)
    (word_by a (take (run is_word_byte bs) bs) h ∙ ap (λ t. if t then Some (Piece Ident) else if word_char a (take (run is_word_byte bs) bs) then Some (Piece Char) else if word_string a (take (run is_word_byte bs) bs) then Some (Piece Str) else None) (run_in is_word_byte bs (run is_word_byte bs) (omega arith)))
    (λ m l g.
    word_by a (take m bs) h
    ∙ ap (λ t. if t then Some (Piece Ident) else if word_char a (take m bs) then Some (Piece Char) else if word_string a (take m bs) then Some (Piece Str) else None) (run_out is_word_byte bs m l g)
    ∙ ap (λ t. if t then Some (Piece Char) else if word_string a (take m bs) then Some (Piece Str) else None) (none m g).0
    ∙ ap (λ t. if t then Some (Piece Str) else None) (none m g).1)

-- a character behind a prefix

no_string : (a m : ℕ) (bs : List ℕ) → word_string a (39 ∷ take m bs) ≡ false
no_string a m bs = by (is_wide a) (a == 117)
  where
    by : (t u : Bool) → ((t && false) || (u && false)) ≡ false
    by true true = refl
    by true false = refl
    by false true = refl
    by false false = refl

char_by : (a m : ℕ) (bs : List ℕ) → starts_name a ≡ true → is_wide a ≡ true → m ≤ length bs → part_of (a ∷ 39 ∷ take m bs) ≡ (if is_at m (char_closing bs) then Some (Piece Char) else None)
char_by a m bs h w l =
    word_by a (39 ∷ take m bs) h
    ∙ ap (λ t. if t then Some (Piece Char) else if word_string a (39 ∷ take m bs) then Some (Piece Str) else None) (ap (λ t. t && (not (starts_with 39 (take m bs)) && is_elements_and 39 (take m bs))) w ∙ char_at bs m l)
    ∙ ap (λ t. if is_at m (char_closing bs) then Some (Piece Char) else if t then Some (Piece Str) else None) (no_string a m bs)

pub longest_wide_char : (a n : ℕ) (bs : List ℕ) → starts_name a ≡ true → is_wide a ≡ true → char_closing bs ≡ Some n → longest_part (a ∷ 39 ∷ bs) ≡ (suc (suc n), Piece Char)
longest_wide_char a n bs h w e =
    longest_is a (39 ∷ bs) (suc n) (Piece Char) (omega (arith, char_fits bs n e))
    (char_by a n bs h w (char_fits bs n e) ∙ ap (λ o. if is_at n o then Some (Piece Char) else None) e ∙ ap (λ t. if t then Some (Piece Char) else None) (eq-eqb n n refl))
    out
  where
    out : (m : ℕ) → suc n < m → m ≤ length (39 ∷ bs) → part_of (a ∷ take m (39 ∷ bs)) ≡ None
    out zero l g = absurd (omega arith)
    out (suc m) l g = char_by a m bs h w (omega arith) ∙ ap (λ o. if is_at m o then Some (Piece Char) else None) e ∙ ap (λ t. if t then Some (Piece Char) else None) (ne_eqb n m (λ k. omega arith))

pub no_wide_char : (a : ℕ) (bs : List ℕ) → char_closing bs ≡ None → HasNoLiteral a (39 ∷ bs)
no_wide_char a bs e zero l = (by (is_wide a), by2 (is_wide a))
  where
    by : (t : Bool) → (t && false) ≡ false
    by true = refl
    by false = refl

    by2 : (t : Bool) → ((t && false) || false) ≡ false
    by2 true = refl
    by2 false = refl
no_wide_char a bs e (suc m) l =
    (ap (λ t. is_wide a && t) (char_at bs m (omega arith) ∙ ap (is_at m) e) ∙ by (is_wide a), no_string a m bs)
  where
    by : (t : Bool) → (t && false) ≡ false
    by true = refl
    by false = refl

-- a string behind a prefix of one byte

no_char : (a m : ℕ) (bs : List ℕ) → word_char a (34 ∷ take m bs) ≡ false
no_char a m bs = by (is_wide a)
  where
    by : (t : Bool) → (t && false) ≡ false
    by true = refl
    by false = refl

string_is : (a m : ℕ) (bs : List ℕ) → m ≤ length bs → word_string a (34 ∷ take m bs) ≡ (is_wide a && is_at m (closing 34 false bs))
string_is a m bs l = by (is_wide a) (a == 117) (is_elements_and 34 (take m bs)) ∙ ap (λ t. is_wide a && t) (elements_at 34 refl refl bs m l)
  where
    by : (t u v : Bool) → ((t && v) || (u && false)) ≡ (t && v)
    by true true true = refl
    by true true false = refl
    by true false true = refl
    by true false false = refl
    by false true v = refl
    by false false v = refl

string_by : (a m : ℕ) (bs : List ℕ) → starts_name a ≡ true → is_wide a ≡ true → m ≤ length bs → part_of (a ∷ 34 ∷ take m bs) ≡ (if is_at m (closing 34 false bs) then Some (Piece Str) else None)
string_by a m bs h w l =
    word_by a (34 ∷ take m bs) h
    ∙ ap (λ t. if t then Some (Piece Char) else if word_string a (34 ∷ take m bs) then Some (Piece Str) else None) (no_char a m bs)
    ∙ ap (λ t. if t then Some (Piece Str) else None) (string_is a m bs l ∙ ap (λ t. t && is_at m (closing 34 false bs)) w)

pub longest_wide_string : (a n : ℕ) (bs : List ℕ) → starts_name a ≡ true → is_wide a ≡ true → closing 34 false bs ≡ Some n → longest_part (a ∷ 34 ∷ bs) ≡ (suc (suc n), Piece Str)
longest_wide_string a n bs h w e =
    longest_is a (34 ∷ bs) (suc n) (Piece Str) (omega (arith, closing_fits 34 false bs n e))
    (string_by a n bs h w (closing_fits 34 false bs n e) ∙ ap (λ o. if is_at n o then Some (Piece Str) else None) e ∙ ap (λ t. if t then Some (Piece Str) else None) (eq-eqb n n refl))
    out
  where
    out : (m : ℕ) → suc n < m → m ≤ length (34 ∷ bs) → part_of (a ∷ take m (34 ∷ bs)) ≡ None
    out zero l g = absurd (omega arith)
    out (suc m) l g = string_by a m bs h w (omega arith) ∙ ap (λ o. if is_at m o then Some (Piece Str) else None) e ∙ ap (λ t. if t then Some (Piece Str) else None) (ne_eqb n m (λ k. omega arith))

pub no_wide_string : (a : ℕ) (bs : List ℕ) → closing 34 false bs ≡ None → HasNoLiteral a (34 ∷ bs)
no_wide_string a bs e zero l = (by (is_wide a), by2 (is_wide a))
  where
    by : (t : Bool) → (t && false) ≡ false
    by true = refl
    by false = refl

    by2 : (t : Bool) → ((t && false) || false) ≡ false
    by2 true = refl
    by2 false = refl
no_wide_string a bs e (suc m) l =
    (no_char a m bs, string_is a m bs (omega arith) ∙ ap (λ o. is_wide a && is_at m o) e ∙ by (is_wide a))
  where
    by : (t : Bool) → (t && false) ≡ false
    by true = refl
    by false = refl

-- a string behind `u8`

u8_is : (m : ℕ) (bs : List ℕ) → m ≤ length bs → word_string 117 (56 ∷ 34 ∷ take m bs) ≡ is_at m (closing 34 false bs)
u8_is m bs l = elements_at 34 refl refl bs m l

u8_by : (m : ℕ) (bs : List ℕ) → m ≤ length bs → part_of (117 ∷ 56 ∷ 34 ∷ take m bs) ≡ (if is_at m (closing 34 false bs) then Some (Piece Str) else None)
u8_by m bs l = word_by 117 (56 ∷ 34 ∷ take m bs) refl ∙ ap (λ t. if t then Some (Piece Str) else None) (u8_is m bs l)

pub longest_u8 : (n : ℕ) (bs : List ℕ) → closing 34 false bs ≡ Some n → longest_part (117 ∷ 56 ∷ 34 ∷ bs) ≡ (suc (suc (suc n)), Piece Str)
longest_u8 n bs e =
    longest_is 117 (56 ∷ 34 ∷ bs) (suc (suc n)) (Piece Str) (omega (arith, closing_fits 34 false bs n e))
    (u8_by n bs (closing_fits 34 false bs n e) ∙ ap (λ o. if is_at n o then Some (Piece Str) else None) e ∙ ap (λ t. if t then Some (Piece Str) else None) (eq-eqb n n refl))
    out
  where
    out : (m : ℕ) → suc (suc n) < m → m ≤ length (56 ∷ 34 ∷ bs) → part_of (117 ∷ take m (56 ∷ 34 ∷ bs)) ≡ None
    out zero l g = absurd (omega arith)
    out (suc zero) l g = absurd (omega arith)
    out (suc (suc m)) l g = u8_by m bs (omega arith) ∙ ap (λ o. if is_at m o then Some (Piece Str) else None) e ∙ ap (λ t. if t then Some (Piece Str) else None) (ne_eqb n m (λ k. omega arith))

pub no_u8 : (bs : List ℕ) → closing 34 false bs ≡ None → HasNoLiteral 117 (56 ∷ 34 ∷ bs)
no_u8 bs e zero l = (refl, refl)
no_u8 bs e (suc zero) l = (refl, refl)
no_u8 bs e (suc (suc m)) l = (refl, u8_is m bs (omega arith) ∙ ap (is_at m) e)

-- and all other words

pub no_prefix : (a : ℕ) (bs : List ℕ) → is_wide a ≡ false → (a == 117) ≡ false → HasNoLiteral a bs
no_prefix a bs w u m l = (and_left (is_wide a) (is_quoted_char (take m bs)) w, ap (λ t. (t && is_quoted 34 (take m bs)) || is_behind_u8 (is_quoted 34) (a ∷ take m bs)) w ∙ none (take m bs))
  where
    none : (xs : List ℕ) → is_behind_u8 (is_quoted 34) (a ∷ xs) ≡ false
    none [] = refl
    none (b ∷ xs) = and_left (a == 117) (b == 56 && is_quoted 34 xs) u

-- the byte behind is no quote, and no `8` with a quote behind it where the first is `u`
pub no_quote : (a b : ℕ) (bs : List ℕ) → (b == 39) ≡ false → (b == 34) ≡ false → (a == 117 && (b == 56 && starts_with 34 bs)) ≡ false → HasNoLiteral a (b ∷ bs)
no_quote a b bs s d u zero l = (by (is_wide a), by2 (is_wide a))
  where
    by : (t : Bool) → (t && false) ≡ false
    by true = refl
    by false = refl

    by2 : (t : Bool) → ((t && false) || false) ≡ false
    by2 true = refl
    by2 false = refl
no_quote a b bs s d u (suc m) l = (
  ap (λ t. is_wide a && (t && (not (starts_with 39 (take m bs)) && is_elements_and 39 (take m bs)))) s ∙ by (is_wide a),
  ap (λ t. (is_wide a && (t && is_elements_and 34 (take m bs))) || (a == 117 && (b == 56 && is_quoted 34 (take m bs)))) d ∙ by2 (is_wide a) (a == 117 && (b == 56 && is_quoted 34 (take m bs))) ∙ none m bs u,
)
  where
    by : (t : Bool) → (t && false) ≡ false
    by true = refl
    by false = refl

    by2 : (t x : Bool) → ((t && false) || x) ≡ x
    by2 true x = refl
    by2 false x = refl

    cut : (p q r x : Bool) → (p && (q && r)) ≡ false → (p && (q && (r && x))) ≡ false
    cut true true true x h = cc
    cut true true false x h = refl
    cut true false r x h = refl
    cut false q r x h = refl

    none : (m : ℕ) (bs : List ℕ) → (a == 117 && (b == 56 && starts_with 34 bs)) ≡ false → (a == 117 && (b == 56 && is_quoted 34 (take m bs))) ≡ false
    none zero bs h = none_at (a == 117) (b == 56)
      where
        none_at : (p q : Bool) → (p && (q && false)) ≡ false
        none_at true true = refl
        none_at true false = refl
        none_at false q = refl
    none (suc m) [] h = h
    none (suc m) (c ∷ bs) h = cut (a == 117) (b == 56) (c == 34) (is_elements_and 34 (take m bs)) h
