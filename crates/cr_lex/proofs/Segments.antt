-- Texts that differ in words alone are parts alike.
use Rattle.std.proofs.Common.{◌≡◌, ℕ, Bool, true, false, not, ◌&&◌, ◌||◌, cond, List, [], ◌∷◌, ◌++◌, None, refl, ap, sym, ◌∙◌, arith}
use Rattle.std.specs.Prelude.{◌==◌}
use Rattle.std.specs.List.{list_all}
use Rattle.std.proofs.lemmas.Bool.{and_parts, eqb-true}
use Rattle.std.proofs.lemmas.Bool.Decides.{nat_tests}
use Rattle.cr_base.specs.Names.{is_identifier, is_word_byte, is_digit, starts_name}
use Rattle.cr_lex.specs.Spellings.{part_of, is_blank, is_blank_byte, is_line_end, is_comment, is_number, is_char, is_string, is_punctuator, is_empty, starts_with, is_quoted, is_quoted_char, is_elements_and, is_behind_u8, is_up_to_end}
use Rattle.cr_lex.specs.Scanning.{is_wide, is_not_line_feed}
use Rattle.cr_lex.proofs.Fronts.{body, body_of, tail, tail_all}
use Rattle.cr_lex.proofs.Longest.{part_by, decided}

-- a byte that stays, or a word in the place of the old name
pub data Segment : Type 0 where
  Stays : ℕ → Segment
  Word : List ℕ → Segment

abbrev pub old_text : List ℕ → List Segment → List ℕ
old_text old [] = []
old_text old (Stays b ∷ s) = b ∷ old_text old s
old_text old (Word w ∷ s) = old ++ old_text old s

abbrev pub new_text : List Segment → List ℕ
new_text [] = []
new_text (Stays b ∷ s) = b ∷ new_text s
new_text (Word w ∷ s) = w ++ new_text s

abbrev pub AreWords : List Segment → Type 0
AreWords [] = Unit {0}
AreWords (Stays b ∷ s) = AreWords s
AreWords (Word w ∷ s) = (is_identifier w ≡ true) × AreWords s

-- over words

all_over : (test : ℕ → Bool) (ws xs : List ℕ) → list_all test ws ≡ true → list_all test (ws ++ xs) ≡ list_all test xs
all_over test [] xs h = refl
all_over test (w ∷ ws) xs h = let p = and_parts (test w) (list_all test ws) h in ap (λ t. t && list_all test (ws ++ xs)) p.0 ∙ all_over test ws xs p.1

words : (name : List ℕ) → is_identifier name ≡ true → list_all is_word_byte name ≡ true
words [] h = cc
words (b ∷ bs) h = let p = and_parts (starts_name b) (list_all is_word_byte bs) h in ap (λ t. t && list_all is_word_byte bs) (ap (λ t. t || is_digit b) p.0) ∙ p.1

lines : (ws : List ℕ) → list_all is_word_byte ws ≡ true → list_all is_not_line_feed ws ≡ true
lines [] h = refl
lines (w ∷ ws) h = let p = and_parts (is_word_byte w) (list_all is_word_byte ws) h in ap (λ t. not t && list_all is_not_line_feed ws) (feed w p.0) ∙ lines ws p.1
  where
    feed : (w : ℕ) → is_word_byte w ≡ true → (w == 10) ≡ false
    feed w h = grind (arith, nat_tests)

-- what a byte of a word is not
record IsWordByte (q w : ℕ) : Type 0 where
  feed : (w == 10) ≡ false
  quote : (w == q) ≡ false
  slash : (w == 92) ≡ false
  star : (w == 42) ≡ false
  line : (w == 47) ≡ false

word_byte : (q w : ℕ) → is_word_byte w ≡ true → is_word_byte q ≡ false → IsWordByte q w
word_byte q w h k = record { feed = grind (arith, nat_tests); quote = by (w == q) refl; slash = grind (arith, nat_tests); star = grind (arith, nat_tests); line = grind (arith, nat_tests) }
  where
    by : (t : Bool) → (w == q) ≡ t → t ≡ false
    by true e = let bad : true ≡ false = sym h ∙ ap is_word_byte (eqb-true w q e) ∙ k in cc
    by false e = refl

body_step : (q b : ℕ) (escaped : Bool) (xs : List ℕ) → IsWordByte q b → body q escaped (b ∷ xs) ≡ body q false xs
body_step q b escaped xs k = rw (k.feed, k.quote, k.slash) (by escaped)
  where
    by : (e : Bool) → cond (not e && false) (is_empty xs) (body q (not e && false) xs) ≡ body q false xs
    by true = refl
    by false = refl

body_over : (q : ℕ) (escaped : Bool) (w : ℕ) (ws xs : List ℕ) → is_word_byte q ≡ false → list_all is_word_byte (w ∷ ws) ≡ true → body q escaped (w ∷ ws ++ xs) ≡ body q false xs
body_over q escaped w [] xs k h = body_step q w escaped xs (word_byte q w (and_parts (is_word_byte w) true h).0 k)
body_over q escaped w (v ∷ ws) xs k h = let p = and_parts (is_word_byte w) (list_all is_word_byte (v ∷ ws)) h in body_step q w escaped (v ∷ ws ++ xs) (word_byte q w p.0 k) ∙ body_over q false v ws xs k p.1

tail_step : (b : ℕ) (star : Bool) (xs : List ℕ) → is_word_byte b ≡ true → tail star (b ∷ xs) ≡ tail false xs
tail_step b star xs h = let k = word_byte 92 b h refl in rw (k.line, k.star) (by star)
  where
    by : (e : Bool) → cond (e && false) (is_empty xs) (tail false xs) ≡ tail false xs
    by true = refl
    by false = refl

tail_over : (star : Bool) (w : ℕ) (ws xs : List ℕ) → list_all is_word_byte (w ∷ ws) ≡ true → tail star (w ∷ ws ++ xs) ≡ tail false xs
tail_over star w [] xs h = tail_step w star xs (and_parts (is_word_byte w) true h).0
tail_over star w (v ∷ ws) xs h = let p = and_parts (is_word_byte w) (list_all is_word_byte (v ∷ ws)) h in tail_step w star (v ∷ ws ++ xs) p.0 ∙ tail_over false v ws xs p.1

-- a text that begins with a letter

pub letter_other : (l q : ℕ) → starts_name l ≡ true → starts_name q ≡ false → (l == q) ≡ false
letter_other l q h k = by (l == q) refl
  where
    by : (t : Bool) → (l == q) ≡ t → t ≡ false
    by true e = let bad : true ≡ false = sym h ∙ ap starts_name (eqb-true l q e) ∙ k in cc
    by false e = refl

module _ (old : List ℕ) (name : is_identifier old ≡ true) where
  -- both texts begin with letters, in the place of a word
  pub with_letters : (P : List ℕ → List ℕ → Type 0) (w : List ℕ) → is_identifier w ≡ true → ((l m : ℕ) (xs ys : List ℕ) → starts_name l ≡ true → starts_name m ≡ true → list_all is_word_byte xs ≡ true → list_all is_word_byte ys ≡ true → P (l ∷ xs) (m ∷ ys)) → P old w
  with_letters P w h k = by old w name h
    where
      by : (xs ys : List ℕ) → is_identifier xs ≡ true → is_identifier ys ≡ true → P xs ys
      by [] ys e f = cc
      by (x ∷ xs) [] e f = cc
      by (x ∷ xs) (y ∷ ys) e f =
          let p = and_parts (starts_name x) (list_all is_word_byte xs) e in
          let q = and_parts (starts_name y) (list_all is_word_byte ys) f in
          k x y xs ys p.0 q.0 p.1 q.1

  same_words : (s : List Segment) → AreWords s → list_all is_word_byte (old_text old s) ≡ list_all is_word_byte (new_text s)
  same_words [] h = refl
  same_words (Stays b ∷ s) h = ap (λ t. is_word_byte b && t) (same_words s h)
  same_words (Word w ∷ s) h = all_over is_word_byte old (old_text old s) (words old name) ∙ same_words s h.1 ∙ sym (all_over is_word_byte w (new_text s) (words w h.0))

  same_lines : (s : List Segment) → AreWords s → list_all is_not_line_feed (old_text old s) ≡ list_all is_not_line_feed (new_text s)
  same_lines [] h = refl
  same_lines (Stays b ∷ s) h = ap (λ t. is_not_line_feed b && t) (same_lines s h)
  same_lines (Word w ∷ s) h = all_over is_not_line_feed old (old_text old s) (lines old (words old name)) ∙ same_lines s h.1 ∙ sym (all_over is_not_line_feed w (new_text s) (lines w (words w h.0)))

  same_empty : (s : List Segment) → AreWords s → is_empty (old_text old s) ≡ is_empty (new_text s)
  same_empty [] h = refl
  same_empty (Stays b ∷ s) h = refl
  same_empty (Word w ∷ s) h = with_letters (λ xs ys. is_empty (xs ++ old_text old s) ≡ is_empty (ys ++ new_text s)) w h.0 (λ l m xs ys e f g i. refl)

  same_body : (q : ℕ) (escaped : Bool) (s : List Segment) → is_word_byte q ≡ false → AreWords s → body q escaped (old_text old s) ≡ body q escaped (new_text s)
  same_body q escaped [] k h = refl
  same_body q escaped (Stays b ∷ s) k h = by (same_body q (not escaped && b == 92) s k h) (same_empty s h)
    where
      by : body q (not escaped && b == 92) (old_text old s) ≡ body q (not escaped && b == 92) (new_text s) → is_empty (old_text old s) ≡ is_empty (new_text s) → body q escaped (b ∷ old_text old s) ≡ body q escaped (b ∷ new_text s)
      by e f = ap (λ t. cond (b == 10) false (cond (not escaped && b == q) t (body q (not escaped && b == 92) (old_text old s)))) f ∙ ap (λ t. cond (b == 10) false (cond (not escaped && b == q) (is_empty (new_text s)) t)) e
  same_body q escaped (Word w ∷ s) k h =
      with_letters (λ xs ys. body q escaped (xs ++ old_text old s) ≡ body q escaped (ys ++ new_text s)) w h.0 (λ l m xs ys e f g i.
      body_over q escaped l xs (old_text old s) k (words (l ∷ xs) (ap (λ t. t && list_all is_word_byte xs) e ∙ g)) ∙ same_body q false s k h.1 ∙ sym (body_over q escaped m ys (new_text s) k (words (m ∷ ys) (ap (λ t. t && list_all is_word_byte ys) f ∙ i))))

  same_tail : (star : Bool) (s : List Segment) → AreWords s → tail star (old_text old s) ≡ tail star (new_text s)
  same_tail star [] h = refl
  same_tail star (Stays b ∷ s) h = ap (λ t. cond (star && b == 47) t (tail (b == 42) (old_text old s))) (same_empty s h) ∙ ap (λ t. cond (star && b == 47) (is_empty (new_text s)) t) (same_tail (b == 42) s h)
  same_tail star (Word w ∷ s) h =
      with_letters (λ xs ys. tail star (xs ++ old_text old s) ≡ tail star (ys ++ new_text s)) w h.0 (λ l m xs ys e f g i.
      tail_over star l xs (old_text old s) (words (l ∷ xs) (ap (λ t. t && list_all is_word_byte xs) e ∙ g)) ∙ same_tail false s h.1 ∙ sym (tail_over star m ys (new_text s) (words (m ∷ ys) (ap (λ t. t && list_all is_word_byte ys) f ∙ i))))

  same_end : (s : List Segment) → AreWords s → is_up_to_end (old_text old s) ≡ is_up_to_end (new_text s)
  same_end s h = tail_all (old_text old s) ∙ same_tail false s h ∙ sym (tail_all (new_text s))

  same_start : (q : ℕ) (s : List Segment) → starts_name q ≡ false → AreWords s → starts_with q (old_text old s) ≡ starts_with q (new_text s)
  same_start q [] k h = refl
  same_start q (Stays b ∷ s) k h = refl
  same_start q (Word w ∷ s) k h = with_letters (λ xs ys. starts_with q (xs ++ old_text old s) ≡ starts_with q (ys ++ new_text s)) w h.0 (λ l m xs ys e f g i. letter_other l q e k ∙ sym (letter_other m q f k))

  same_elements : (q : ℕ) (s : List Segment) → (q == 10) ≡ false → (q == 92) ≡ false → is_word_byte q ≡ false → AreWords s → is_elements_and q (old_text old s) ≡ is_elements_and q (new_text s)
  same_elements q s a b k h = body_of q a b (old_text old s) ∙ same_body q false s k h ∙ sym (body_of q a b (new_text s))

  same_quoted : (s : List Segment) → AreWords s → is_quoted 34 (old_text old s) ≡ is_quoted 34 (new_text s)
  same_quoted [] h = refl
  same_quoted (Stays b ∷ s) h = ap (λ t. b == 34 && t) (same_elements 34 s refl refl refl h)
  same_quoted (Word w ∷ s) h = with_letters (λ xs ys. is_quoted 34 (xs ++ old_text old s) ≡ is_quoted 34 (ys ++ new_text s)) w h.0 (λ l m xs ys e f g i.
      ap (λ t. t && is_elements_and 34 (xs ++ old_text old s)) (letter_other l 34 e refl) ∙ sym (ap (λ t. t && is_elements_and 34 (ys ++ new_text s)) (letter_other m 34 f refl)))

  same_char : (s : List Segment) → AreWords s → is_quoted_char (old_text old s) ≡ is_quoted_char (new_text s)
  same_char [] h = refl
  same_char (Stays b ∷ s) h = ap (λ t. b == 39 && (not t && is_elements_and 39 (old_text old s))) (same_start 39 s refl h) ∙ ap (λ t. b == 39 && (not (starts_with 39 (new_text s)) && t)) (same_elements 39 s refl refl refl h)
  same_char (Word w ∷ s) h = with_letters (λ xs ys. is_quoted_char (xs ++ old_text old s) ≡ is_quoted_char (ys ++ new_text s)) w h.0 (λ l m xs ys e f g i.
      ap (λ t. t && (not (starts_with 39 (xs ++ old_text old s)) && is_elements_and 39 (xs ++ old_text old s))) (letter_other l 39 e refl)
      ∙ sym (ap (λ t. t && (not (starts_with 39 (ys ++ new_text s)) && is_elements_and 39 (ys ++ new_text s))) (letter_other m 39 f refl)))

  and_none : (t : Bool) → (t && false) ≡ false
  and_none true = refl
  and_none false = refl

  same_u8 : (a : ℕ) (s : List Segment) → AreWords s → is_behind_u8 (is_quoted 34) (a ∷ old_text old s) ≡ is_behind_u8 (is_quoted 34) (a ∷ new_text s)
  same_u8 a [] h = refl
  same_u8 a (Stays b ∷ s) h = ap (λ t. a == 117 && (b == 56 && t)) (same_quoted s h)
  same_u8 a (Word w ∷ s) h = with_letters (λ xs ys. is_behind_u8 (is_quoted 34) (a ∷ xs ++ old_text old s) ≡ is_behind_u8 (is_quoted 34) (a ∷ ys ++ new_text s)) w h.0 (λ l m xs ys e f g i.
      ap (λ t. a == 117 && (t && is_quoted 34 (xs ++ old_text old s))) (letter_other l 56 e refl)
      ∙ sym (ap (λ t. a == 117 && (t && is_quoted 34 (ys ++ new_text s))) (letter_other m 56 f refl)))

  same_comment : (a : ℕ) (s : List Segment) → AreWords s → is_comment (a ∷ old_text old s) ≡ is_comment (a ∷ new_text s)
  same_comment a [] h = refl
  same_comment a (Stays b ∷ s) h = ap (λ t. a == 47 && ((b == 42 && t) || (b == 47 && list_all is_not_line_feed (old_text old s)))) (same_end s h) ∙ ap (λ t. a == 47 && ((b == 42 && is_up_to_end (new_text s)) || (b == 47 && t))) (same_lines s h)
  same_comment a (Word w ∷ s) h = with_letters (λ xs ys. is_comment (a ∷ xs ++ old_text old s) ≡ is_comment (a ∷ ys ++ new_text s)) w h.0 (λ l m xs ys e f g i. none l (xs ++ old_text old s) e ∙ sym (none m (ys ++ new_text s) f))
    where
      none : (l : ℕ) (xs : List ℕ) → starts_name l ≡ true → is_comment (a ∷ l ∷ xs) ≡ false
      none l xs e = ap (λ t. a == 47 && ((t && is_up_to_end xs) || (l == 47 && list_all is_not_line_feed xs))) (letter_other l 42 e refl) ∙ ap (λ t. a == 47 && (t && list_all is_not_line_feed xs)) (letter_other l 47 e refl) ∙ and_none (a == 47)

  -- no punctuator has a letter
  second : (a l : ℕ) (xs : List ℕ) → starts_name l ≡ true → is_punctuator (a ∷ l ∷ xs) ≡ false
  second a l [] h = grind (arith, nat_tests)
  second a l (c ∷ []) h = grind (arith, nat_tests)
  second a l (c ∷ d ∷ []) h = ap (λ t. a == 37 && (t && (c == 37 && d == 58))) (letter_other l 58 h refl) ∙ and_none (a == 37)
  second a l (c ∷ d ∷ e ∷ xs) h = refl

  third : (a b l : ℕ) (xs : List ℕ) → starts_name l ≡ true → is_punctuator (a ∷ b ∷ l ∷ xs) ≡ false
  third a b l [] h = grind (arith, nat_tests)
  third a b l (d ∷ []) h = ap (λ t. a == 37 && (b == 58 && (t && d == 58))) (letter_other l 37 h refl) ∙ ap (λ t. a == 37 && t) (and_none (b == 58)) ∙ and_none (a == 37)
  third a b l (d ∷ e ∷ xs) h = refl

  fourth : (a b c l : ℕ) (xs : List ℕ) → starts_name l ≡ true → is_punctuator (a ∷ b ∷ c ∷ l ∷ xs) ≡ false
  fourth a b c l [] h = ap (λ t. a == 37 && (b == 58 && (c == 37 && t))) (letter_other l 58 h refl) ∙ ap (λ t. a == 37 && (b == 58 && t)) (and_none (c == 37)) ∙ ap (λ t. a == 37 && t) (and_none (b == 58)) ∙ and_none (a == 37)
  fourth a b c l (e ∷ xs) h = refl

  same_punct : (a : ℕ) (s : List Segment) → AreWords s → is_punctuator (a ∷ old_text old s) ≡ is_punctuator (a ∷ new_text s)
  same_punct a [] h = refl
  same_punct a (Word w ∷ s) h = with_letters (λ xs ys. is_punctuator (a ∷ xs ++ old_text old s) ≡ is_punctuator (a ∷ ys ++ new_text s)) w h.0 (λ l m xs ys e f g i. second a l (xs ++ old_text old s) e ∙ sym (second a m (ys ++ new_text s) f))
  same_punct a (Stays b ∷ []) h = refl
  same_punct a (Stays b ∷ Word w ∷ s) h = with_letters (λ xs ys. is_punctuator (a ∷ b ∷ xs ++ old_text old s) ≡ is_punctuator (a ∷ b ∷ ys ++ new_text s)) w h.0 (λ l m xs ys e f g i. third a b l (xs ++ old_text old s) e ∙ sym (third a b m (ys ++ new_text s) f))
  same_punct a (Stays b ∷ Stays c ∷ []) h = refl
  same_punct a (Stays b ∷ Stays c ∷ Word w ∷ s) h = with_letters (λ xs ys. is_punctuator (a ∷ b ∷ c ∷ xs ++ old_text old s) ≡ is_punctuator (a ∷ b ∷ c ∷ ys ++ new_text s)) w h.0 (λ l m xs ys e f g i. fourth a b c l (xs ++ old_text old s) e ∙ sym (fourth a b c m (ys ++ new_text s) f))
  same_punct a (Stays b ∷ Stays c ∷ Stays d ∷ []) h = refl
  same_punct a (Stays b ∷ Stays c ∷ Stays d ∷ Stays e ∷ s) h = refl
  same_punct a (Stays b ∷ Stays c ∷ Stays d ∷ Word w ∷ s) h = with_letters (λ xs ys. is_punctuator (a ∷ b ∷ c ∷ d ∷ xs ++ old_text old s) ≡ is_punctuator (a ∷ b ∷ c ∷ d ∷ ys ++ new_text s)) w h.0 (λ l m xs ys e f g i. refl)

  -- where the old text is no part, the new one is none, unless it is a number
  pub none_alike : (a : ℕ) (s : List Segment) → AreWords s → part_of (a ∷ old_text old s) ≡ None → is_number (a ∷ new_text s) ≡ false → part_of (a ∷ new_text s) ≡ None
  none_alike a s h none num =
      let t = rows (is_blank (a ∷ old_text old s)) (is_line_end (a ∷ old_text old s)) (is_comment (a ∷ old_text old s)) (is_identifier (a ∷ old_text old s)) (is_number (a ∷ old_text old s)) (is_char (a ∷ old_text old s)) (is_string (a ∷ old_text old s)) (is_punctuator (a ∷ old_text old s))
      (sym (part_by (a ∷ old_text old s) refl refl refl refl refl refl refl refl) ∙ none) in
      part_by (a ∷ new_text s)
      (ap (λ t. is_blank_byte a && t) (sym (same_empty s h)) ∙ t.0)
      (ap (λ t. a == 10 && t) (sym (same_empty s h)) ∙ t.1)
      (sym (same_comment a s h) ∙ t.2)
      (ap (λ t. starts_name a && t) (sym (same_words s h)) ∙ t.3)
      num
      (ap (λ t. (a == 39 && (not t && is_elements_and 39 (new_text s))) || (is_wide a && is_quoted_char (new_text s))) (sym (same_start 39 s refl h))
      ∙ ap (λ t. (a == 39 && (not (starts_with 39 (old_text old s)) && t)) || (is_wide a && is_quoted_char (new_text s))) (sym (same_elements 39 s refl refl refl h))
      ∙ ap (λ t. (a == 39 && (not (starts_with 39 (old_text old s)) && is_elements_and 39 (old_text old s))) || (is_wide a && t)) (sym (same_char s h)) ∙ t.4)
      (ap (λ t. ((a == 34 && t) || (is_wide a && is_quoted 34 (new_text s))) || is_behind_u8 (is_quoted 34) (a ∷ new_text s)) (sym (same_elements 34 s refl refl refl h))
      ∙ ap (λ t. ((a == 34 && is_elements_and 34 (old_text old s)) || (is_wide a && t)) || is_behind_u8 (is_quoted 34) (a ∷ new_text s)) (sym (same_quoted s h))
      ∙ ap (λ t. ((a == 34 && is_elements_and 34 (old_text old s)) || (is_wide a && is_quoted 34 (old_text old s))) || t) (sym (same_u8 a s h)) ∙ t.5)
      (sym (same_punct a s h) ∙ t.6)
    where
      rows : (bl le co i n c s p : Bool) → decided bl le co i n c s p ≡ None → (bl ≡ false) × (le ≡ false) × (co ≡ false) × (i ≡ false) × (c ≡ false) × (s ≡ false) × (p ≡ false)
      rows true le co i n c s p h = cc
      rows false true co i n c s p h = cc
      rows false false true i n c s p h = cc
      rows false false false true n c s p h = cc
      rows false false false false true c s p h = cc
      rows false false false false false true s p h = cc
      rows false false false false false false true p h = cc
      rows false false false false false false false true h = cc
      rows false false false false false false false false h = (refl, refl, refl, refl, refl, refl, refl)
