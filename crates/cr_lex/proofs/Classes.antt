-- The longest part, by the first byte.
use Rattle.std.proofs.Common.{◌≡◌, ℕ, zero, suc, ◌<◌, ◌≤◌, ◌⊎◌, inl, inr, Bool, true, false, not, ◌&&◌, ◌||◌, cond, List, [], ◌∷◌, length, take, Option, Some, None, refl, ap, sym, ◌∙◌, arith, codes}
use Rattle.std.specs.Prelude.{◌==◌, if◌then◌else◌}
use Rattle.std.specs.List.{list_all}
use Rattle.std.proofs.lemmas.Bool.{and_parts, or_cases, cases_eq, and_left, eqb-true, eq-eqb, ne_eqb}
use Rattle.std.proofs.lemmas.Bool.Decides.{nat_tests}
use Rattle.cr_base.specs.Names.{is_identifier, is_digit, starts_name}
use Rattle.cr_base.specs.declared.token.PpKind.TheVariants.{Number, Char, Str, Punct, Stray}
use Rattle.cr_lex.specs.Spellings.{is_blank, is_line_end, Part, Blank, LineEnd, Comment, Piece, part_of, token_kind, is_blank_byte, is_comment, is_number, is_char, is_string, is_punctuator, is_pair, is_triple, is_empty, is_one_of, starts_with, is_quoted, is_quoted_char, is_elements_and, is_behind_u8, goes_on_a_number, is_digit_and_more, is_up_to_end}
use Rattle.cr_lex.specs.Lexing.{longest_part}
use Rattle.cr_lex.specs.Scanning.{run, number_run, closing, block, is_quote, is_wide, is_not_line_feed}
use Rattle.cr_lex.proofs.Fronts.{run_in, run_out, run_fits, number_in, number_out, number_fits, is_at, elements_at, closing_fits, up_to_end_at, block_fits}
use Rattle.cr_lex.proofs.Longest.{longest_is, stray_is, decided, part_by, miss_blank, miss_end, miss_comment, miss_ident, miss_punct, is_single}

empty_not : (m : ℕ) (bs : List ℕ) → 0 < m → m ≤ length bs → is_empty (take m bs) ≡ false
empty_not zero bs h l = absurd (omega arith)
empty_not (suc m) [] h l = absurd (omega arith)
empty_not (suc m) (b ∷ bs) h l = refl

-- the bytes with which no literal begins
record IsPlainByte (a : ℕ) : Type 0 where
  char : (a == 39) ≡ false
  string : (a == 34) ≡ false
  wide : is_wide a ≡ false
  u : (a == 117) ≡ false

miss_char : (a : ℕ) (xs : List ℕ) → IsPlainByte a → is_char (a ∷ xs) ≡ false
miss_char a xs h = ap (λ t. (t && (not (starts_with 39 xs) && is_elements_and 39 xs)) || (is_wide a && is_quoted_char xs)) h.char ∙ and_left (is_wide a) (is_quoted_char xs) h.wide

pub miss_u8 : (a : ℕ) (xs : List ℕ) → (a == 117) ≡ false → is_behind_u8 (is_quoted 34) (a ∷ xs) ≡ false
miss_u8 a [] e = refl
miss_u8 a (b ∷ bs) e = and_left (a == 117) _ e

miss_string : (a : ℕ) (xs : List ℕ) → IsPlainByte a → is_string (a ∷ xs) ≡ false
miss_string a xs h =
    ap (λ t. ((t && is_elements_and 34 xs) || (is_wide a && is_quoted 34 xs)) || is_behind_u8 (is_quoted 34) (a ∷ xs)) h.string
    ∙ ap (λ t. (t && is_quoted 34 xs) || is_behind_u8 (is_quoted 34) (a ∷ xs)) h.wide
    ∙ miss_u8 a xs h.u

pub miss_number : (a : ℕ) (xs : List ℕ) → is_digit a ≡ false → (a == 46) ≡ false → is_number (a ∷ xs) ≡ false
miss_number a xs d e = ap (λ t. (t && goes_on_a_number a xs) || (a == 46 && is_digit_and_more xs)) d ∙ and_left (a == 46) (is_digit_and_more xs) e

-- white space

blank_plain : (a : ℕ) → is_blank_byte a ≡ true → IsPlainByte a
blank_plain a h = record { char = grind (arith, nat_tests); string = grind (arith, nat_tests); wide = grind (arith, nat_tests); u = grind (arith, nat_tests) }

apart : (some others : List ℕ) (a : ℕ) → list_all (λ x. not (is_one_of others x)) some ≡ true → is_one_of some a ≡ true → is_one_of others a ≡ false
apart [] others a h e = cc
apart (x ∷ some) others a h e = by (is_one_of others x) refl h (x == a) refl e (λ k l. apart some others a k l)
  where
    by : (t : Bool) → is_one_of others x ≡ t → (not t && list_all (λ x. not (is_one_of others x)) some) ≡ true → (u : Bool) → (x == a) ≡ u → (u || is_one_of some a) ≡ true → (list_all (λ x. not (is_one_of others x)) some ≡ true → is_one_of some a ≡ true → is_one_of others a ≡ false) → is_one_of others a ≡ false
    by true k h u g e ih = cc
    by false k h true g e ih = sym (ap (is_one_of others) (eqb-true x a g)) ∙ k
    by false k h false g e ih = ih h e

blank_single : (a : ℕ) → is_blank_byte a ≡ true → is_single a ≡ false
unfolding is_single
blank_single a h = apart (32 ∷ 9 ∷ 11 ∷ 12 ∷ 13 ∷ []) (codes "[](){}.&*+-~!/%<>^|?:;=,#") a refl h

pub letter_single : (a : ℕ) → starts_name a ≡ true → is_single a ≡ false
unfolding is_single
letter_single a h = grind (arith, nat_tests)

digit_single : (a : ℕ) → is_digit a ≡ true → is_single a ≡ false
unfolding is_single
digit_single a h = grind (arith, nat_tests)

blank_by : (a : ℕ) (xs : List ℕ) → is_blank_byte a ≡ true → part_of (a ∷ xs) ≡ (if is_empty xs then Some Blank else None)
blank_by a xs h =
    part_by (a ∷ xs) (ap (λ t. t && is_empty xs) h)
    (miss_end a xs (grind (arith, nat_tests))) (miss_comment a xs (grind (arith, nat_tests))) (miss_ident a xs (grind (arith, nat_tests)))
    (miss_number a xs (grind (arith, nat_tests)) (grind (arith, nat_tests))) (miss_char a xs (blank_plain a h)) (miss_string a xs (blank_plain a h))
    (miss_punct a xs (blank_single a h))

-- a part of one byte
single_part : (a : ℕ) (bs : List ℕ) (part : Part) → ((xs : List ℕ) → part_of (a ∷ xs) ≡ (if is_empty xs then Some part else None)) → longest_part (a ∷ bs) ≡ (1, part)
single_part a bs part h = longest_is a bs 0 part (omega arith) (h []) (λ m l g. h (take m bs) ∙ ap (λ t. if t then Some part else None) (empty_not m bs l g))

pub longest_blank : (a : ℕ) (bs : List ℕ) → is_blank_byte a ≡ true → longest_part (a ∷ bs) ≡ (1, Blank)
longest_blank a bs h = single_part a bs Blank (λ xs. blank_by a xs h)

end_is : is_single 10 ≡ false
unfolding is_single
end_is = refl

quote_is : is_single 39 ≡ false
unfolding is_single
quote_is = refl

double_is : is_single 34 ≡ false
unfolding is_single
double_is = refl

end_by : (xs : List ℕ) → part_of (10 ∷ xs) ≡ (if is_empty xs then Some LineEnd else None)
end_by xs =
    part_by (10 ∷ xs) refl refl (miss_comment 10 xs refl) refl refl
    (miss_char 10 xs (record { char = refl; string = refl; wide = refl; u = refl })) (miss_string 10 xs (record { char = refl; string = refl; wide = refl; u = refl }))
    (miss_punct 10 xs end_is)

pub longest_end : (bs : List ℕ) → longest_part (10 ∷ bs) ≡ (1, LineEnd)
longest_end bs = single_part 10 bs LineEnd end_by

-- numbers

or_no : (t : Bool) → (t || false) ≡ t
or_no true = refl
or_no false = refl

digit_plain : (a : ℕ) → is_digit a ≡ true → IsPlainByte a
digit_plain a h = record { char = grind (arith, nat_tests); string = grind (arith, nat_tests); wide = grind (arith, nat_tests); u = grind (arith, nat_tests) }

digit_by : (a : ℕ) (xs : List ℕ) → is_digit a ≡ true → part_of (a ∷ xs) ≡ (if goes_on_a_number a xs then Some (Piece Number) else None)
digit_by a xs h =
    part_by (a ∷ xs) (miss_blank a xs (grind (arith, nat_tests)))
    (miss_end a xs (grind (arith, nat_tests))) (miss_comment a xs (grind (arith, nat_tests))) (miss_ident a xs (grind (arith, nat_tests)))
    number (miss_char a xs (digit_plain a h)) (miss_string a xs (digit_plain a h)) (miss_punct a xs (digit_single a h))
    ∙ by (goes_on_a_number a xs)
  where
    dot : (a == 46) ≡ false
    dot = grind (arith, nat_tests)

    number : is_number (a ∷ xs) ≡ goes_on_a_number a xs
    number = ap (λ t. (t && goes_on_a_number a xs) || (a == 46 && is_digit_and_more xs)) h ∙ ap (λ t. goes_on_a_number a xs || (t && is_digit_and_more xs)) dot ∙ or_no (goes_on_a_number a xs)

    by : (t : Bool) → decided false false false false t false false false ≡ (if t then Some (Piece Number) else None)
    by true = refl
    by false = refl

pub longest_number : (a : ℕ) (bs : List ℕ) → is_digit a ≡ true → longest_part (a ∷ bs) ≡ (suc (number_run a bs), Piece Number)
longest_number a bs h =
    longest_is a bs (number_run a bs) (Piece Number) (number_fits a bs)
    (digit_by a (take (number_run a bs) bs) h ∙ ap (λ t. if t then Some (Piece Number) else None) (number_in a bs (number_run a bs) (omega arith)))
    (λ m l g. digit_by a (take m bs) h ∙ ap (λ t. if t then Some (Piece Number) else None) (number_out a bs m l g))

-- punctuators

abbrev pub quad_at : ℕ → List ℕ → Bool
quad_at a (b ∷ c ∷ d ∷ bs) = a == 37 && (b == 58 && (c == 37 && d == 58))
quad_at a _ = false

abbrev pub triple_at : ℕ → List ℕ → Bool
triple_at a (b ∷ c ∷ bs) = is_triple a b c
triple_at a _ = false

abbrev pub pair_at : ℕ → List ℕ → Bool
pair_at a (b ∷ bs) = is_pair a b
pair_at a _ = false

many : (a m : ℕ) (bs : List ℕ) → 3 < m → m ≤ length bs → is_punctuator (a ∷ take m bs) ≡ false
many a zero bs h l = absurd (omega arith)
many a (suc zero) bs h l = absurd (omega arith)
many a (suc (suc zero)) bs h l = absurd (omega arith)
many a (suc (suc (suc zero))) bs h l = absurd (omega arith)
many a (suc (suc (suc (suc m)))) [] h l = absurd (omega arith)
many a (suc (suc (suc (suc m)))) (b ∷ []) h l = absurd (omega arith)
many a (suc (suc (suc (suc m)))) (b ∷ c ∷ []) h l = absurd (omega arith)
many a (suc (suc (suc (suc m)))) (b ∷ c ∷ d ∷ []) h l = absurd (omega arith)
many a (suc (suc (suc (suc m)))) (b ∷ c ∷ d ∷ e ∷ bs) h l = refl

at3 : (a : ℕ) (bs : List ℕ) → 3 ≤ length bs → is_punctuator (a ∷ take 3 bs) ≡ quad_at a bs
at3 a [] h = absurd (omega arith)
at3 a (b ∷ []) h = absurd (omega arith)
at3 a (b ∷ c ∷ []) h = absurd (omega arith)
at3 a (b ∷ c ∷ d ∷ bs) h = refl

at2 : (a : ℕ) (bs : List ℕ) → 2 ≤ length bs → is_punctuator (a ∷ take 2 bs) ≡ triple_at a bs
at2 a [] h = absurd (omega arith)
at2 a (b ∷ []) h = absurd (omega arith)
at2 a (b ∷ c ∷ bs) h = refl

at1 : (a : ℕ) (bs : List ℕ) → 1 ≤ length bs → is_punctuator (a ∷ take 1 bs) ≡ pair_at a bs
at1 a [] h = absurd (omega arith)
at1 a (b ∷ bs) h = refl

long3 : (a : ℕ) (bs : List ℕ) → quad_at a bs ≡ true → 3 ≤ length bs
long3 a [] h = cc
long3 a (b ∷ []) h = cc
long3 a (b ∷ c ∷ []) h = cc
long3 a (b ∷ c ∷ d ∷ bs) h = omega arith

long2 : (a : ℕ) (bs : List ℕ) → triple_at a bs ≡ true → 2 ≤ length bs
long2 a [] h = cc
long2 a (b ∷ []) h = cc
long2 a (b ∷ c ∷ bs) h = omega arith

long1 : (a : ℕ) (bs : List ℕ) → pair_at a bs ≡ true → 1 ≤ length bs
long1 a [] h = cc
long1 a (b ∷ bs) h = omega arith

above2 : (a m : ℕ) (bs : List ℕ) → quad_at a bs ≡ false → 2 < m → m ≤ length bs → is_punctuator (a ∷ take m bs) ≡ false
above2 a m bs q h l = elim (cases_eq m 3) [ inl e ↦ ap (λ k. is_punctuator (a ∷ take k bs)) e ∙ at3 a bs (omega arith) ∙ q | inr d ↦ many a m bs (omega arith) l ]

above1 : (a m : ℕ) (bs : List ℕ) → quad_at a bs ≡ false → triple_at a bs ≡ false → 1 < m → m ≤ length bs → is_punctuator (a ∷ take m bs) ≡ false
above1 a m bs q t h l = elim (cases_eq m 2) [ inl e ↦ ap (λ k. is_punctuator (a ∷ take k bs)) e ∙ at2 a bs (omega arith) ∙ t | inr d ↦ above2 a m bs q (omega arith) l ]

above0 : (a m : ℕ) (bs : List ℕ) → quad_at a bs ≡ false → triple_at a bs ≡ false → pair_at a bs ≡ false → 0 < m → m ≤ length bs → is_punctuator (a ∷ take m bs) ≡ false
above0 a m bs q t p h l = elim (cases_eq m 1) [ inl e ↦ ap (λ k. is_punctuator (a ∷ take k bs)) e ∙ at1 a bs (omega arith) ∙ p | inr d ↦ above1 a m bs q t (omega arith) l ]

-- the fronts of the text are punctuators or no parts
abbrev pub ArePuncts : ℕ → List ℕ → Type 0
ArePuncts a bs = (m : ℕ) → m ≤ length bs → part_of (a ∷ take m bs) ≡ (if is_punctuator (a ∷ take m bs) then Some (Piece Punct) else None)

abbrev pub punct_or_stray : Bool → Bool → Bool → Bool → ℕ × Part
punct_or_stray quad triple pair single =
    if quad then (4, Piece Punct) else if triple then (3, Piece Punct) else if pair then (2, Piece Punct) else if single then (1, Piece Punct) else (1, Piece Stray)

pub longest_punct : (a : ℕ) (bs : List ℕ) → ArePuncts a bs → longest_part (a ∷ bs) ≡ punct_or_stray (quad_at a bs) (triple_at a bs) (pair_at a bs) (is_single a)
unfolding is_single
longest_punct a bs h = by (quad_at a bs) (triple_at a bs) (pair_at a bs) (is_single a) refl refl refl refl
  where
    pick : Bool → Option Part
    pick t = if t then Some (Piece Punct) else None

    miss : (m : ℕ) → m ≤ length bs → is_punctuator (a ∷ take m bs) ≡ false → part_of (a ∷ take m bs) ≡ None
    miss m l e = h m l ∙ ap (λ t. if t then Some (Piece Punct) else None) e

    hit : (m : ℕ) → m ≤ length bs → is_punctuator (a ∷ take m bs) ≡ true → part_of (a ∷ take m bs) ≡ Some (Piece Punct)
    hit m l e = h m l ∙ ap (λ t. if t then Some (Piece Punct) else None) e

    by : (q t p s : Bool) → quad_at a bs ≡ q → triple_at a bs ≡ t → pair_at a bs ≡ p → is_single a ≡ s → longest_part (a ∷ bs) ≡ punct_or_stray q t p s
    by true t p s eq et ep es = longest_is a bs 3 (Piece Punct) (long3 a bs eq) (hit 3 (long3 a bs eq) (at3 a bs (long3 a bs eq) ∙ eq)) (λ m l g. miss m g (many a m bs l g))
    by false true p s eq et ep es = longest_is a bs 2 (Piece Punct) (long2 a bs et) (hit 2 (long2 a bs et) (at2 a bs (long2 a bs et) ∙ et)) (λ m l g. miss m g (above2 a m bs eq l g))
    by false false true s eq et ep es = longest_is a bs 1 (Piece Punct) (long1 a bs ep) (hit 1 (long1 a bs ep) (at1 a bs (long1 a bs ep) ∙ ep)) (λ m l g. miss m g (above1 a m bs eq et l g))
    by false false false true eq et ep es = longest_is a bs 0 (Piece Punct) (omega arith) (hit 0 (omega arith) es) (λ m l g. miss m g (above0 a m bs eq et ep l g))
    by false false false false eq et ep es = stray_is a bs (λ m g. none m g (cases_eq m 0))
      where
        none : (m : ℕ) → m ≤ length bs → (m ≡ 0) ⊎ (m ≡ 0 → ⊥) → part_of (a ∷ take m bs) ≡ None
        none m g (inl e) = miss m g (ap (λ k. is_punctuator (a ∷ take k bs)) e ∙ es)
        none m g (inr d) = miss m g (above0 a m bs eq et ep (omega arith) g)

-- any other byte
pub other_puncts : (a : ℕ) (bs : List ℕ) → is_blank_byte a ≡ false → (a == 10) ≡ false → (a == 47) ≡ false → starts_name a ≡ false → is_digit a ≡ false → (a == 46) ≡ false → is_quote a ≡ false → ArePuncts a bs
other_puncts a bs bl le co nm dg dt q m l =
    part_by (a ∷ take m bs) (miss_blank a (take m bs) bl) (miss_end a (take m bs) le) (miss_comment a (take m bs) co) (miss_ident a (take m bs) nm) (miss_number a (take m bs) dg dt) (miss_char a (take m bs) plain) (miss_string a (take m bs) plain) refl
    ∙ by (is_punctuator (a ∷ take m bs))
  where
    plain : IsPlainByte a
    plain = record { char = grind (arith, nat_tests); string = grind (arith, nat_tests); wide = grind (arith, nat_tests); u = grind (arith, nat_tests) }

    by : (t : Bool) → decided false false false false false false false t ≡ (if t then Some (Piece Punct) else None)
    by true = refl
    by false = refl

-- `.`

dot_plain : IsPlainByte 46
dot_plain = record { char = refl; string = refl; wide = refl; u = refl }

dot_by : (xs : List ℕ) → part_of (46 ∷ xs) ≡ (if is_digit_and_more xs then Some (Piece Number) else if is_punctuator (46 ∷ xs) then Some (Piece Punct) else None)
dot_by xs =
    part_by (46 ∷ xs) refl refl (miss_comment 46 xs refl) refl refl (miss_char 46 xs dot_plain) (miss_string 46 xs dot_plain) refl
    ∙ by (is_digit_and_more xs) (is_punctuator (46 ∷ xs))
  where
    by : (t u : Bool) → decided false false false false t false false u ≡ (if t then Some (Piece Number) else if u then Some (Piece Punct) else None)
    by true u = refl
    by false true = refl
    by false false = refl

dot_digit : (b : ℕ) (xs : List ℕ) → is_digit b ≡ true → is_punctuator (46 ∷ b ∷ xs) ≡ false
dot_digit b [] h = refl
dot_digit b (c ∷ []) h = ap (λ t. (t && c == 46) || false) (not_dot b h)
  where
    not_dot : (b : ℕ) → is_digit b ≡ true → (b == 46) ≡ false
    not_dot b h = grind (arith, nat_tests)
dot_digit b (c ∷ d ∷ []) h = refl
dot_digit b (c ∷ d ∷ e ∷ xs) h = refl

pub longest_dot_number : (b : ℕ) (bs : List ℕ) → is_digit b ≡ true → longest_part (46 ∷ b ∷ bs) ≡ (suc (suc (number_run b bs)), Piece Number)
longest_dot_number b bs h =
    longest_is 46 (b ∷ bs) (suc (number_run b bs)) (Piece Number) (omega (arith, number_fits b bs))
    (dot_by (b ∷ take (number_run b bs) bs) ∙ ap (λ t. if t then Some (Piece Number) else if is_punctuator (46 ∷ b ∷ take (number_run b bs) bs) then Some (Piece Punct) else None) (ap (λ t. t && goes_on_a_number b (take (number_run b bs) bs)) h ∙ number_in b bs (number_run b bs) (omega arith)))
    out
  where
    out : (m : ℕ) → suc (number_run b bs) < m → m ≤ length (b ∷ bs) → part_of (46 ∷ take m (b ∷ bs)) ≡ None
    out zero l g = absurd (omega arith)
    out (suc m) l g =
        dot_by (b ∷ take m bs)
        ∙ ap (λ t. if t then Some (Piece Number) else if is_punctuator (46 ∷ b ∷ take m bs) then Some (Piece Punct) else None) (ap (λ t. t && goes_on_a_number b (take m bs)) h ∙ number_out b bs m (omega arith) (omega arith))
        ∙ ap (λ t. if t then Some (Piece Punct) else None) (dot_digit b (take m bs) h)

abbrev pub starts_digit : List ℕ → Bool
starts_digit [] = false
starts_digit (b ∷ bs) = is_digit b

no_digit : (m : ℕ) (bs : List ℕ) → starts_digit bs ≡ false → is_digit_and_more (take m bs) ≡ false
no_digit zero bs h = refl
no_digit (suc m) [] h = refl
no_digit (suc m) (b ∷ bs) h = ap (λ t. t && goes_on_a_number b (take m bs)) h

pub dot_puncts : (bs : List ℕ) → starts_digit bs ≡ false → ArePuncts 46 bs
dot_puncts bs h m l = dot_by (take m bs) ∙ ap (λ t. if t then Some (Piece Number) else if is_punctuator (46 ∷ take m bs) then Some (Piece Punct) else None) (no_digit m bs h)

-- `/`

slash_plain : IsPlainByte 47
slash_plain = record { char = refl; string = refl; wide = refl; u = refl }

slash_by : (xs : List ℕ) → part_of (47 ∷ xs) ≡ (if is_comment (47 ∷ xs) then Some Comment else if is_punctuator (47 ∷ xs) then Some (Piece Punct) else None)
slash_by xs =
    part_by (47 ∷ xs) refl refl refl refl refl (miss_char 47 xs slash_plain) (miss_string 47 xs slash_plain) refl
    ∙ by (is_comment (47 ∷ xs)) (is_punctuator (47 ∷ xs))
  where
    by : (t u : Bool) → decided false false t false false false false u ≡ (if t then Some Comment else if u then Some (Piece Punct) else None)
    by true u = refl
    by false true = refl
    by false false = refl

slash_star : (xs : List ℕ) → is_punctuator (47 ∷ 42 ∷ xs) ≡ false
slash_star [] = refl
slash_star (c ∷ []) = refl
slash_star (c ∷ d ∷ []) = refl
slash_star (c ∷ d ∷ e ∷ xs) = refl

slash_slash : (xs : List ℕ) → is_punctuator (47 ∷ 47 ∷ xs) ≡ false
slash_slash [] = refl
slash_slash (c ∷ []) = refl
slash_slash (c ∷ d ∷ []) = refl
slash_slash (c ∷ d ∷ e ∷ xs) = refl

or_false : (t : Bool) → (t || false) ≡ t
or_false true = refl
or_false false = refl

block_by : (m : ℕ) (bs : List ℕ) → m ≤ length bs → part_of (47 ∷ 42 ∷ take m bs) ≡ (if is_at m (block false bs) then Some Comment else None)
block_by m bs l =
    slash_by (42 ∷ take m bs)
    ∙ ap (λ t. if t then Some Comment else if is_punctuator (47 ∷ 42 ∷ take m bs) then Some (Piece Punct) else None) (or_false (is_up_to_end (take m bs)) ∙ up_to_end_at bs m l)
    ∙ ap (λ u. if is_at m (block false bs) then Some Comment else if u then Some (Piece Punct) else None) (slash_star (take m bs))

slash_alone : part_of (47 ∷ []) ≡ Some (Piece Punct)
slash_alone = slash_by []

pub longest_block : (bs : List ℕ) (n : ℕ) → block false bs ≡ Some n → longest_part (47 ∷ 42 ∷ bs) ≡ (suc (suc n), Comment)
longest_block bs n e =
    longest_is 47 (42 ∷ bs) (suc n) Comment (omega (arith, block_fits false bs n e))
    (block_by n bs (block_fits false bs n e) ∙ ap (λ o. if is_at n o then Some Comment else None) e ∙ ap (λ t. if t then Some Comment else None) (eq-eqb n n refl))
    out
  where
    out : (m : ℕ) → suc n < m → m ≤ length (42 ∷ bs) → part_of (47 ∷ take m (42 ∷ bs)) ≡ None
    out zero l g = absurd (omega arith)
    out (suc m) l g = block_by m bs (omega arith) ∙ ap (λ o. if is_at m o then Some Comment else None) e ∙ ap (λ t. if t then Some Comment else None) (ne_eqb n m (λ k. omega arith))

pub longest_open : (bs : List ℕ) → block false bs ≡ None → longest_part (47 ∷ 42 ∷ bs) ≡ (1, Piece Punct)
longest_open bs e = longest_is 47 (42 ∷ bs) 0 (Piece Punct) (omega arith) slash_alone out
  where
    out : (m : ℕ) → 0 < m → m ≤ length (42 ∷ bs) → part_of (47 ∷ take m (42 ∷ bs)) ≡ None
    out zero l g = absurd (omega arith)
    out (suc m) l g = block_by m bs (omega arith) ∙ ap (λ o. if is_at m o then Some Comment else None) e

line_by : (xs : List ℕ) → part_of (47 ∷ 47 ∷ xs) ≡ (if list_all is_not_line_feed xs then Some Comment else None)
line_by xs =
    slash_by (47 ∷ xs) ∙ ap (λ u. if list_all is_not_line_feed xs then Some Comment else if u then Some (Piece Punct) else None) (slash_slash xs)

pub longest_line : (bs : List ℕ) → longest_part (47 ∷ 47 ∷ bs) ≡ (suc (suc (run is_not_line_feed bs)), Comment)
longest_line bs =
    longest_is 47 (47 ∷ bs) (suc (run is_not_line_feed bs)) Comment (omega (arith, run_fits is_not_line_feed bs))
    (line_by (take (run is_not_line_feed bs) bs) ∙ ap (λ t. if t then Some Comment else None) (run_in is_not_line_feed bs (run is_not_line_feed bs) (omega arith)))
    out
  where
    out : (m : ℕ) → suc (run is_not_line_feed bs) < m → m ≤ length (47 ∷ bs) → part_of (47 ∷ take m (47 ∷ bs)) ≡ None
    out zero l g = absurd (omega arith)
    out (suc m) l g = line_by (take m bs) ∙ ap (λ t. if t then Some Comment else None) (run_out is_not_line_feed bs m (omega arith) (omega arith))

no_comment : (m : ℕ) (bs : List ℕ) → starts_with 42 bs ≡ false → starts_with 47 bs ≡ false → is_comment (47 ∷ take m bs) ≡ false
no_comment zero bs h g = refl
no_comment (suc m) [] h g = refl
no_comment (suc m) (b ∷ bs) h g = ap (λ t. (t && is_up_to_end (take m bs)) || (b == 47 && list_all is_not_line_feed (take m bs))) h ∙ ap (λ t. t && list_all is_not_line_feed (take m bs)) g

pub slash_puncts : (bs : List ℕ) → starts_with 42 bs ≡ false → starts_with 47 bs ≡ false → ArePuncts 47 bs
slash_puncts bs h g m l = slash_by (take m bs) ∙ ap (λ t. if t then Some Comment else if is_punctuator (47 ∷ take m bs) then Some (Piece Punct) else None) (no_comment m bs h g)

-- literals

-- how many bytes a character has behind its first quote
abbrev pub char_closing : List ℕ → Option ℕ
char_closing bs = if starts_with 39 bs then None else closing 39 false bs

pub char_at : (bs : List ℕ) (m : ℕ) → m ≤ length bs → (not (starts_with 39 (take m bs)) && is_elements_and 39 (take m bs)) ≡ is_at m (char_closing bs)
char_at [] zero l = refl
char_at [] (suc m) l = absurd (omega arith)
char_at (b ∷ bs) zero l = by (b == 39) (closing 39 false (b ∷ bs)) (elements_at 39 refl refl (b ∷ bs) zero l)
  where
    by : (t : Bool) (o : Option ℕ) → false ≡ is_at zero o → false ≡ is_at zero (cond t None o)
    by true o h = refl
    by false o h = h
char_at (b ∷ bs) (suc m) l = by (b == 39) (elements_at 39 refl refl (b ∷ bs) (suc m) l)
  where
    by : (t : Bool) → is_elements_and 39 (b ∷ take m bs) ≡ is_at (suc m) (closing 39 false (b ∷ bs)) → (not t && is_elements_and 39 (b ∷ take m bs)) ≡ is_at (suc m) (cond t None (closing 39 false (b ∷ bs)))
    by true h = refl
    by false h = h

pub char_fits : (bs : List ℕ) (n : ℕ) → char_closing bs ≡ Some n → n ≤ length bs
char_fits bs n e = by (starts_with 39 bs) e
  where
    by : (t : Bool) → cond t None (closing 39 false bs) ≡ Some n → n ≤ length bs
    by true e = cc
    by false e = closing_fits 39 false bs n e

-- a text that is a part at one length alone
one_length : (a : ℕ) (bs : List ℕ) (part : Part) (o : Option ℕ) → ((n : ℕ) → o ≡ Some n → n ≤ length bs) → ((m : ℕ) → m ≤ length bs → part_of (a ∷ take m bs) ≡ (if is_at m o then Some part else None))
    → ((n : ℕ) → o ≡ Some n → longest_part (a ∷ bs) ≡ (suc n, part)) × (o ≡ None → longest_part (a ∷ bs) ≡ (1, Piece Stray))
one_length a bs part o fits h = (
  (λ n e. longest_is a bs n part (fits n e) (h n (fits n e) ∙ ap (λ o. if is_at n o then Some part else None) e ∙ ap (λ t. if t then Some part else None) (eq-eqb n n refl))
      (λ m l g. h m g ∙ ap (λ o. if is_at m o then Some part else None) e ∙ ap (λ t. if t then Some part else None) (ne_eqb n m (λ k. omega arith)))),
  (λ e. stray_is a bs (λ m l. h m l ∙ ap (λ o. if is_at m o then Some part else None) e)),
)

single_by : (m : ℕ) (bs : List ℕ) → m ≤ length bs → part_of (39 ∷ take m bs) ≡ (if is_at m (char_closing bs) then Some (Piece Char) else None)
single_by m bs l =
    part_by (39 ∷ take m bs) refl refl (miss_comment 39 (take m bs) refl) refl refl (or_false (not (starts_with 39 (take m bs)) && is_elements_and 39 (take m bs)) ∙ char_at bs m l)
    (ap (λ t. t) (miss_u8 39 (take m bs) refl)) (miss_punct 39 (take m bs) quote_is)
    ∙ by (is_at m (char_closing bs))
  where
    by : (t : Bool) → decided false false false false false t false false ≡ (if t then Some (Piece Char) else None)
    by true = refl
    by false = refl

double_by : (m : ℕ) (bs : List ℕ) → m ≤ length bs → part_of (34 ∷ take m bs) ≡ (if is_at m (closing 34 false bs) then Some (Piece Str) else None)
double_by m bs l =
    part_by (34 ∷ take m bs) refl refl (miss_comment 34 (take m bs) refl) refl refl refl
    (ap (λ t. (is_elements_and 34 (take m bs) || false) || t) (miss_u8 34 (take m bs) refl) ∙ or_false (is_elements_and 34 (take m bs) || false) ∙ or_false (is_elements_and 34 (take m bs)) ∙ elements_at 34 refl refl bs m l)
    (miss_punct 34 (take m bs) double_is)
    ∙ by (is_at m (closing 34 false bs))
  where
    by : (t : Bool) → decided false false false false false false t false ≡ (if t then Some (Piece Str) else None)
    by true = refl
    by false = refl

pub longest_single : (bs : List ℕ) → ((n : ℕ) → char_closing bs ≡ Some n → longest_part (39 ∷ bs) ≡ (suc n, Piece Char)) × (char_closing bs ≡ None → longest_part (39 ∷ bs) ≡ (1, Piece Stray))
longest_single bs = one_length 39 bs (Piece Char) (char_closing bs) (char_fits bs) (λ m l. single_by m bs l)

pub longest_double : (bs : List ℕ) → ((n : ℕ) → closing 34 false bs ≡ Some n → longest_part (34 ∷ bs) ≡ (suc n, Piece Str)) × (closing 34 false bs ≡ None → longest_part (34 ∷ bs) ≡ (1, Piece Stray))
longest_double bs = one_length 34 bs (Piece Str) (closing 34 false bs) (closing_fits 34 false bs) (λ m l. double_by m bs l)

-- white space is no token

kind_by : (text : List ℕ) → is_identifier text ≡ false → is_number text ≡ false → is_char text ≡ false → is_string text ≡ false → is_punctuator text ≡ false → token_kind text ≡ None
unfolding token_kind
kind_by text i n c s p = rw (i, n, c, s, p) refl

pub token_blank : (text : List ℕ) → is_blank text ≡ true → token_kind text ≡ None
token_blank [] h = cc
token_blank (a ∷ xs) h =
    let b : is_blank_byte a ≡ true = (and_parts (is_blank_byte a) (is_empty xs) h).0 in
    kind_by (a ∷ xs) (miss_ident a xs (letter a b)) (miss_number a xs (digit a b) (dot a b)) (miss_char a xs (blank_plain a b)) (miss_string a xs (blank_plain a b)) (miss_punct a xs (blank_single a b))
  where
    letter : (a : ℕ) → is_blank_byte a ≡ true → starts_name a ≡ false
    letter a h = grind (arith, nat_tests)

    digit : (a : ℕ) → is_blank_byte a ≡ true → is_digit a ≡ false
    digit a h = grind (arith, nat_tests)

    dot : (a : ℕ) → is_blank_byte a ≡ true → (a == 46) ≡ false
    dot a h = grind (arith, nat_tests)

pub token_end : (text : List ℕ) → is_line_end text ≡ true → token_kind text ≡ None
token_end [] h = cc
token_end (a ∷ xs) h = ap (λ x. token_kind (x ∷ xs)) (eqb-true a 10 (and_parts (a == 10) (is_empty xs) h).0)
    ∙ kind_by (10 ∷ xs) refl refl (miss_char 10 xs (record { char = refl; string = refl; wide = refl; u = refl })) (miss_string 10 xs (record { char = refl; string = refl; wide = refl; u = refl })) (miss_punct 10 xs end_is)

pub token_comment : (text : List ℕ) → is_comment text ≡ true → token_kind text ≡ None
token_comment [] h = cc
token_comment (a ∷ []) h = cc
token_comment (a ∷ b ∷ xs) h =
    let p = and_parts (a == 47) ((b == 42 && is_up_to_end xs) || (b == 47 && list_all is_not_line_feed xs)) h in
    ap (λ x. token_kind (x ∷ b ∷ xs)) (eqb-true a 47 p.0)
    ∙ kind_by (47 ∷ b ∷ xs) refl refl (miss_char 47 (b ∷ xs) slash_plain) (miss_string 47 (b ∷ xs) slash_plain) (punct (or_cases (b == 42 && is_up_to_end xs) (b == 47 && list_all is_not_line_feed xs) p.1))
  where
    punct : ((b == 42 && is_up_to_end xs) ≡ true) ⊎ ((b == 47 && list_all is_not_line_feed xs) ≡ true) → is_punctuator (47 ∷ b ∷ xs) ≡ false
    punct (inl e) = ap (λ x. is_punctuator (47 ∷ x ∷ xs)) (eqb-true b 42 (and_parts (b == 42) (is_up_to_end xs) e).0) ∙ slash_star xs
    punct (inr e) = ap (λ x. is_punctuator (47 ∷ x ∷ xs)) (eqb-true b 47 (and_parts (b == 47) (list_all is_not_line_feed xs) e).0) ∙ slash_slash xs
