-- A text that is exactly one token.
use Rattle.std.proofs.Common.{◌≡◌, ℕ, ◌⊎◌, inl, inr, Bool, true, false, not, ◌&&◌, ◌||◌, cond, List, [], ◌∷◌, Option, Some, None, refl, ap, sym, ◌∙◌, arith, codes}
use Rattle.std.specs.Prelude.{◌==◌}
use Rattle.std.specs.List.{list_all}
use Rattle.std.proofs.lemmas.Bool.{and_parts, or_cases, eqb-true}
use Rattle.std.proofs.lemmas.Bool.Decides.{nat_tests}
use Rattle.cr_base.specs.Names.{is_identifier, is_digit, is_word_byte, starts_name}
use Rattle.cr_base.specs.declared.token.PpKind.{PpKind}
use Rattle.cr_base.specs.declared.token.PpKind.TheVariants.{Ident, Number, Char, Str, Punct}
use Rattle.cr_lex.specs.Spellings.{token_kind, is_number, is_char, is_string, is_punctuator, goes_on_behind, goes_on_a_number, is_digit_and_more, is_elements_and, is_quoted, is_quoted_char, starts_with, is_behind_u8, is_one_of, is_pair}
use Rattle.cr_lex.specs.Scanning.{is_wide, is_not_line_feed}

-- no line feed
abbrev pub OneLine : List ℕ → Type 0
OneLine bs = list_all is_not_line_feed bs ≡ true

more : (b : ℕ) (bs : List ℕ) → (b == 10) ≡ false → OneLine bs → OneLine (b ∷ bs)
more b bs e h = ap (λ t. not t && list_all is_not_line_feed bs) e ∙ h

all_words : (bs : List ℕ) → list_all is_word_byte bs ≡ true → OneLine bs
all_words [] h = refl
all_words (b ∷ bs) h = let p = and_parts (is_word_byte b) (list_all is_word_byte bs) h in more b bs (no_end b p.0) (all_words bs p.1)
  where
    no_end : (b : ℕ) → is_word_byte b ≡ true → (b == 10) ≡ false
    no_end b h = grind (arith, nat_tests)

identifier_line : (text : List ℕ) → is_identifier text ≡ true → OneLine text
identifier_line [] h = refl
identifier_line (b ∷ bs) h = let p = and_parts (starts_name b) (list_all is_word_byte bs) h in more b bs (no_end b p.0) (all_words bs p.1)
  where
    no_end : (b : ℕ) → starts_name b ≡ true → (b == 10) ≡ false
    no_end b h = grind (arith, nat_tests)

number_goes : (a : ℕ) (bs : List ℕ) → goes_on_a_number a bs ≡ true → OneLine bs
number_goes a [] h = refl
number_goes a (b ∷ bs) h = let p = and_parts (goes_on_behind a b) (goes_on_a_number b bs) h in more b bs (no_end a b p.0) (number_goes b bs p.1)
  where
    no_end : (a b : ℕ) → goes_on_behind a b ≡ true → (b == 10) ≡ false
    no_end a b h = by (b == 10) refl
      where
        by : (t : Bool) → (b == 10) ≡ t → t ≡ false
        by true e = let bad : false ≡ true = sym (ap (goes_on_behind a) (eqb-true b 10 e)) ∙ h in cc
        by false e = refl

digits_line : (bs : List ℕ) → is_digit_and_more bs ≡ true → OneLine bs
digits_line [] h = refl
digits_line (b ∷ bs) h = let p = and_parts (is_digit b) (goes_on_a_number b bs) h in more b bs (no_end b p.0) (number_goes b bs p.1)
  where
    no_end : (b : ℕ) → is_digit b ≡ true → (b == 10) ≡ false
    no_end b h = grind (arith, nat_tests)

number_line : (text : List ℕ) → is_number text ≡ true → OneLine text
number_line [] h = refl
number_line (b ∷ bs) h = elim (or_cases (is_digit_and_more (b ∷ bs)) (b == 46 && is_digit_and_more bs) h) [
  | inl e ↦ digits_line (b ∷ bs) e
  | inr e ↦ (let p = and_parts (b == 46) (is_digit_and_more bs) e in more b bs (dot b p.0) (digits_line bs p.1))
]
  where
    dot : (b : ℕ) → (b == 46) ≡ true → (b == 10) ≡ false
    dot b h = grind (arith, nat_tests)

is_false : (t : Bool) → not t ≡ true → t ≡ false
is_false true h = cc
is_false false h = refl

elements_line : (q : ℕ) → (q == 10) ≡ false → (bs : List ℕ) → is_elements_and q bs ≡ true → OneLine bs
elements_line q f [] h = refl
elements_line q f (a ∷ []) h = more a [] (ap (λ x. x == 10) (eqb-true a q h) ∙ f) refl
elements_line q f (a ∷ b ∷ bs) h = by (a == 92) refl h (elements_line q f bs) (elements_line q f (b ∷ bs))
  where
    escape : (a : ℕ) → (a == 92) ≡ true → (a == 10) ≡ false
    escape a h = grind (arith, nat_tests)

    by : (t : Bool) → (a == 92) ≡ t → cond t (not (b == 10) && is_elements_and q bs) (not (a == q) && not (a == 10) && is_elements_and q (b ∷ bs)) ≡ true
        → (is_elements_and q bs ≡ true → OneLine bs) → (is_elements_and q (b ∷ bs) ≡ true → OneLine (b ∷ bs)) → OneLine (a ∷ b ∷ bs)
    by true e h i j = let p = and_parts (not (b == 10)) (is_elements_and q bs) h in more a (b ∷ bs) (escape a e) (more b bs (is_false (b == 10) p.0) (i p.1))
    by false e h i j =
        let p = and_parts (not (a == q) && not (a == 10)) (is_elements_and q (b ∷ bs)) h in
        more a (b ∷ bs) (is_false (a == 10) (and_parts (not (a == q)) (not (a == 10)) p.0).1) (j p.1)

quoted_line : (q : ℕ) → (q == 10) ≡ false → (bs : List ℕ) → is_quoted q bs ≡ true → OneLine bs
quoted_line q f [] h = refl
quoted_line q f (b ∷ bs) h = let p = and_parts (b == q) (is_elements_and q bs) h in more b bs (ap (λ x. x == 10) (eqb-true b q p.0) ∙ f) (elements_line q f bs p.1)

char_quoted_line : (bs : List ℕ) → is_quoted_char bs ≡ true → OneLine bs
char_quoted_line [] h = refl
char_quoted_line (b ∷ bs) h =
    let p = and_parts (b == 39) (not (starts_with 39 bs) && is_elements_and 39 bs) h in
    more b bs (ap (λ x. x == 10) (eqb-true b 39 p.0)) (elements_line 39 refl bs (and_parts (not (starts_with 39 bs)) (is_elements_and 39 bs) p.1).1)

wide_line : (b : ℕ) → is_wide b ≡ true → (b == 10) ≡ false
wide_line b h = grind (arith, nat_tests)

char_line : (text : List ℕ) → is_char text ≡ true → OneLine text
char_line [] h = refl
char_line (b ∷ bs) h = elim (or_cases (is_quoted_char (b ∷ bs)) (is_wide b && is_quoted_char bs) h) [
  | inl e ↦ char_quoted_line (b ∷ bs) e
  | inr e ↦ (let p = and_parts (is_wide b) (is_quoted_char bs) e in more b bs (wide_line b p.0) (char_quoted_line bs p.1))
]

u8_line : (text : List ℕ) → is_behind_u8 (is_quoted 34) text ≡ true → OneLine text
u8_line [] h = refl
u8_line (a ∷ []) h = cc
u8_line (a ∷ b ∷ bs) h =
    let p = and_parts (a == 117) (b == 56 && is_quoted 34 bs) h in
    let r = and_parts (b == 56) (is_quoted 34 bs) p.1 in
    more a (b ∷ bs) (ap (λ x. x == 10) (eqb-true a 117 p.0)) (more b bs (ap (λ x. x == 10) (eqb-true b 56 r.0)) (quoted_line 34 refl bs r.1))

string_line : (text : List ℕ) → is_string text ≡ true → OneLine text
string_line [] h = refl
string_line (b ∷ bs) h = elim (or_cases (is_quoted 34 (b ∷ bs) || (is_wide b && is_quoted 34 bs)) (is_behind_u8 (is_quoted 34) (b ∷ bs)) h) [
  | inl e ↦ plain (or_cases (is_quoted 34 (b ∷ bs)) (is_wide b && is_quoted 34 bs) e)
  | inr e ↦ u8_line (b ∷ bs) e
]
  where
    plain : (is_quoted 34 (b ∷ bs) ≡ true) ⊎ ((is_wide b && is_quoted 34 bs) ≡ true) → OneLine (b ∷ bs)
    plain (inl e) = quoted_line 34 refl (b ∷ bs) e
    plain (inr e) = let p = and_parts (is_wide b) (is_quoted 34 bs) e in more b bs (wide_line b p.0) (quoted_line 34 refl bs p.1)

punct_line : (text : List ℕ) → is_punctuator text ≡ true → OneLine text
punct_line [] h = refl
punct_line (a ∷ []) h = more a [] (end a h) refl
  where
    end : (a : ℕ) → is_one_of (codes "[](){}.&*+-~!/%<>^|?:;=,#") a ≡ true → (a == 10) ≡ false
    end a h = by (a == 10) refl
      where
        by : (t : Bool) → (a == 10) ≡ t → t ≡ false
        by true e = let bad : false ≡ true = sym (ap (is_one_of (codes "[](){}.&*+-~!/%<>^|?:;=,#")) (eqb-true a 10 e)) ∙ h in cc
        by false e = refl
punct_line (a ∷ b ∷ []) h = by (a == 10) (b == 10) refl refl
  where
    no_pair : (b : ℕ) → is_pair 10 b ≡ false
    no_pair b = refl

    no_second : (a : ℕ) → (a == 10) ≡ false → is_pair a 10 ≡ false
    no_second a h = grind (arith, nat_tests)

    by : (t u : Bool) → (a == 10) ≡ t → (b == 10) ≡ u → OneLine (a ∷ b ∷ [])
    by true u e f = let bad : false ≡ true = sym (ap (λ x. is_pair x b) (eqb-true a 10 e) ∙ no_pair b) ∙ h in cc
    by false true e f = let bad : false ≡ true = sym (ap (is_pair a) (eqb-true b 10 f) ∙ no_second a e) ∙ h in cc
    by false false e f = more a (b ∷ []) e (more b [] f refl)
punct_line (a ∷ b ∷ c ∷ []) h = elim (or_cases (a == 46 && (b == 46 && c == 46)) (is_one_of (codes "<>") a && (a == b && c == 61)) h) [
  | inl e ↦ (let p = and_parts (a == 46) (b == 46 && c == 46) e in let r = and_parts (b == 46) (c == 46) p.1 in
      three (ap (λ x. x == 10) (eqb-true a 46 p.0)) (ap (λ x. x == 10) (eqb-true b 46 r.0)) (ap (λ x. x == 10) (eqb-true c 46 r.1)))
  | inr e ↦ (let p = and_parts (is_one_of (codes "<>") a) (a == b && c == 61) e in let r = and_parts (a == b) (c == 61) p.1 in
      three (angle a p.0) (ap (λ x. x == 10) (sym (eqb-true a b r.0)) ∙ angle a p.0) (ap (λ x. x == 10) (eqb-true c 61 r.1)))
]
  where
    three : (a == 10) ≡ false → (b == 10) ≡ false → (c == 10) ≡ false → OneLine (a ∷ b ∷ c ∷ [])
    three e f g = more a (b ∷ c ∷ []) e (more b (c ∷ []) f (more c [] g refl))

    angle : (a : ℕ) → is_one_of (codes "<>") a ≡ true → (a == 10) ≡ false
    angle a h = grind (arith, nat_tests)
punct_line (a ∷ b ∷ c ∷ d ∷ []) h =
    let p = and_parts (a == 37) (b == 58 && (c == 37 && d == 58)) h in
    let r = and_parts (b == 58) (c == 37 && d == 58) p.1 in
    let s = and_parts (c == 37) (d == 58) r.1 in
    more a (b ∷ c ∷ d ∷ []) (ap (λ x. x == 10) (eqb-true a 37 p.0)) (more b (c ∷ d ∷ []) (ap (λ x. x == 10) (eqb-true b 58 r.0)) (more c (d ∷ []) (ap (λ x. x == 10) (eqb-true c 37 s.0)) (more d [] (ap (λ x. x == 10) (eqb-true d 58 s.1)) refl)))
punct_line (a ∷ b ∷ c ∷ d ∷ e ∷ bs) h = cc

-- a token has no line feed
pub token_line : (text : List ℕ) (kind : PpKind) → token_kind text ≡ Some kind → OneLine text
unfolding token_kind
token_line text kind h = by (is_identifier text) (is_number text) (is_char text) (is_string text) (is_punctuator text) refl refl refl refl refl h
  where
    by : (i n c s p : Bool) → is_identifier text ≡ i → is_number text ≡ n → is_char text ≡ c → is_string text ≡ s → is_punctuator text ≡ p
        → cond i (Some Ident) (cond n (Some Number) (cond c (Some Char) (cond s (Some Str) (cond p (Some Punct) None)))) ≡ Some kind → OneLine text
    by true n c s p ei en ec es ep h = identifier_line text ei
    by false true c s p ei en ec es ep h = number_line text en
    by false false true s p ei en ec es ep h = char_line text ec
    by false false false true p ei en ec es ep h = string_line text es
    by false false false false true ei en ec es ep h = punct_line text ep
    by false false false false false ei en ec es ep h = cc

pub lined : (text : List ℕ) → list_all is_not_line_feed text ≡ false → token_kind text ≡ None
lined text h = by (token_kind text) refl
  where
    by : (o : Option PpKind) → token_kind text ≡ o → o ≡ None
    by None e = refl
    by (Some kind) e = let bad : false ≡ true = sym h ∙ token_line text kind e in cc
