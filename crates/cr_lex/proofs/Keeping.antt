-- The longest part stays the longest one where words behind it are replaced.
use Rattle.std.proofs.Common.{◌≡◌, ℕ, zero, suc, ◌+◌, ◌-◌, ◌<◌, ◌≤◌, ◌⊎◌, inl, inr, Bool, true, false, ◌&&◌, ◌||◌, List, [], ◌∷◌, ◌++◌, length, take, Option, Some, None, refl, ap, sym, ◌∙◌, arith, codes, length-append, append-nil}
use Rattle.std.specs.Prelude.{◌==◌, if◌then◌else◌}
use Rattle.std.specs.List.{list_all}
use Rattle.std.proofs.lemmas.Bool.{cases_lt, and_parts, or_cases, eqb-true, and_from}
use Rattle.std.proofs.lemmas.Bool.Decides.{nat_tests}
use Rattle.std.proofs.lemmas.List.{take-append-le}
use Rattle.std.proofs.Math.Seq.{take-append_seam}
use Rattle.cr_base.specs.Names.{is_identifier, is_word_byte, is_digit, starts_name}
use Rattle.cr_base.specs.declared.token.PpKind.TheVariants.{Ident, Stray}
use Rattle.cr_lex.specs.Spellings.{Part, Piece, part_of, is_blank, is_line_end, is_comment, is_number, is_char, is_string, is_punctuator, is_one_of, starts_with, goes_on_behind, goes_on_a_number, is_digit_and_more}
use Rattle.cr_lex.specs.Lexing.{longest, longest_part, or_shorter}
use Rattle.cr_lex.specs.Scanning.{run, is_wide}
use Rattle.cr_lex.specs.Renaming.{could_prefix}
use Rattle.cr_lex.proofs.Longest.{longest_is, stray_is, part_by, decided}
use Rattle.cr_lex.proofs.Words.{HasNoLiteral, longest_word, no_prefix, no_quote}
use Rattle.cr_lex.proofs.Segments.{Segment, Stays, Word, old_text, new_text, AreWords, none_alike}

-- what the longest front is

abbrev pub Hit : ℕ → List ℕ → ℕ → Part → Type 0
Hit n text m p = (m ≤ n) × (1 ≤ m) × (part_of (take m text) ≡ Some p) × ((i : ℕ) → m < i → i ≤ n → part_of (take i text) ≡ None)

abbrev pub Missed : ℕ → List ℕ → ℕ → Part → Type 0
Missed n text m p = (m ≡ 1) × (p ≡ Piece Stray) × ((i : ℕ) → 0 < i → i ≤ n → part_of (take i text) ≡ None)

pub longest_gives : (n : ℕ) (text : List ℕ) (m : ℕ) (p : Part) → longest n text ≡ (m, p) → Hit n text m p ⊎ Missed n text m p
unfolding longest
longest_gives zero text m p e = inr (ap (λ x. x.0) (sym e), ap (λ x. x.1) (sym e), λ i a b. absurd (omega arith))
longest_gives (suc n) text m p e = by (part_of (take (suc n) text)) refl e (λ f. longest_gives n text m p f)
  where
    last : part_of (take (suc n) text) ≡ None → (i : ℕ) → (i ≤ n → part_of (take i text) ≡ None) → i ≤ suc n → part_of (take i text) ≡ None
    last f i k b = elim (cases_lt n i) [
      | inl l ↦ ap (λ j. part_of (take j text)) (let q : i ≡ suc n = omega arith in q) ∙ f
      | inr g ↦ k g
    ]

    more : part_of (take (suc n) text) ≡ None → Hit n text m p ⊎ Missed n text m p → Hit (suc n) text m p ⊎ Missed (suc n) text m p
    more f (inl (a, b, c, d)) = inl (omega arith, b, c, λ i l g. last f i (λ h. d i l h) g)
    more f (inr (a, b, d)) = inr (a, b, λ i l g. last f i (λ h. d i l h) g)

    by : (o : Option Part) → part_of (take (suc n) text) ≡ o → or_shorter (suc n) (longest n text) o ≡ (m, p) → (longest n text ≡ (m, p) → Hit n text m p ⊎ Missed n text m p) → Hit (suc n) text m p ⊎ Missed (suc n) text m p
    by (Some q) f e ih =
        let long : suc n ≡ m = ap (λ x. x.0) e in
        let same : q ≡ p = ap (λ x. x.1) e in
        inl (omega arith, omega arith, ap (λ i. part_of (take i text)) (sym long) ∙ f ∙ ap Some same, λ i l g. absurd (omega arith))
    by None f e ih = more f (ih e)

-- numbers

goes_front : (a : ℕ) (p : List ℕ) (y : ℕ) (zs : List ℕ) → goes_on_a_number a (p ++ y ∷ zs) ≡ true → goes_on_a_number a (p ++ y ∷ []) ≡ true
goes_front a [] y zs h = ap (λ t. t && true) (and_parts (goes_on_behind a y) (goes_on_a_number y zs) h).0
goes_front a (b ∷ p) y zs h = let q = and_parts (goes_on_behind a b) (goes_on_a_number b (p ++ y ∷ zs)) h in and_from (goes_on_behind a b) _ q.0 (goes_front b p y zs q.1)

goes_letter : (a : ℕ) (p : List ℕ) (y o : ℕ) → starts_name o ≡ true → goes_on_a_number a (p ++ y ∷ []) ≡ true → goes_on_a_number a (p ++ o ∷ []) ≡ true
goes_letter a [] y o k h = ap (λ t. (((t || is_digit o) || o == 46) || (is_one_of (codes "+-") o && is_one_of (codes "eEpP") a)) && true) k
goes_letter a (b ∷ p) y o k h = let q = and_parts (goes_on_behind a b) (goes_on_a_number b (p ++ y ∷ [])) h in and_from (goes_on_behind a b) _ q.0 (goes_letter b p y o k q.1)

digit_front : (p : List ℕ) (y : ℕ) (zs : List ℕ) → is_digit_and_more (p ++ y ∷ zs) ≡ true → is_digit_and_more (p ++ y ∷ []) ≡ true
digit_front [] y zs h = ap (λ t. t && true) (and_parts (is_digit y) (goes_on_a_number y zs) h).0
digit_front (b ∷ p) y zs h = let q = and_parts (is_digit b) (goes_on_a_number b (p ++ y ∷ zs)) h in and_from (is_digit b) _ q.0 (goes_front b p y zs q.1)

digit_letter : (p : List ℕ) (y o : ℕ) → starts_name y ≡ true → starts_name o ≡ true → is_digit_and_more (p ++ y ∷ []) ≡ true → is_digit_and_more (p ++ o ∷ []) ≡ true
digit_letter [] y o l k h = let bad : true ≡ false = sym (and_parts (is_digit y) true h).0 ∙ no_digit y l in cc
  where
    no_digit : (y : ℕ) → starts_name y ≡ true → is_digit y ≡ false
    no_digit y l = grind (arith, nat_tests)
digit_letter (b ∷ p) y o l k h = let q = and_parts (is_digit b) (goes_on_a_number b (p ++ y ∷ [])) h in and_from (is_digit b) _ q.0 (goes_letter b p y o k q.1)

or_keep : (p q r s : Bool) → (p ≡ true → r ≡ true) → (q ≡ true → s ≡ true) → (p || q) ≡ true → (r || s) ≡ true
or_keep true q true s f g h = refl
or_keep true q false s f g h = let bad = f refl in cc
or_keep false true true s f g h = refl
or_keep false true false s f g h = g refl
or_keep false false r s f g h = cc

and_keep : (p q r : Bool) → (q ≡ true → r ≡ true) → (p && q) ≡ true → (p && r) ≡ true
and_keep true q r f h = f h
and_keep false q r f h = h

number_front : (a : ℕ) (p : List ℕ) (y : ℕ) (zs : List ℕ) → is_number (a ∷ p ++ y ∷ zs) ≡ true → is_number (a ∷ p ++ y ∷ []) ≡ true
number_front a p y zs h = or_keep _ _ _ _ (and_keep (is_digit a) _ _ (goes_front a p y zs)) (and_keep (a == 46) _ _ (digit_front p y zs)) h

number_letter : (a : ℕ) (p : List ℕ) (y o : ℕ) → starts_name y ≡ true → starts_name o ≡ true → is_number (a ∷ p ++ y ∷ []) ≡ true → is_number (a ∷ p ++ o ∷ []) ≡ true
number_letter a p y o l k h = or_keep _ _ _ _ (and_keep (is_digit a) _ _ (goes_letter a p y o k)) (and_keep (a == 46) _ _ (digit_letter p y o l k)) h

number_none : (text : List ℕ) → part_of text ≡ None → is_number text ≡ false
number_none text h = by (is_blank text) (is_line_end text) (is_comment text) (is_identifier text) (is_number text) (is_char text) (is_string text) (is_punctuator text) (sym (part_by text refl refl refl refl refl refl refl refl) ∙ h)
  where
    by : (bl le co i n c s p : Bool) → decided bl le co i n c s p ≡ None → n ≡ false
    by true le co i n c s p h = cc
    by false true co i n c s p h = cc
    by false false true i n c s p h = cc
    by false false false true n c s p h = cc
    by false false false false true c s p h = cc
    by false false false false false c s p h = refl

-- fronts of segments

abbrev pub stays : List ℕ → List Segment → List Segment
stays [] s = s
stays (b ∷ p) s = Stays b ∷ stays p s

pub old_stays : (old p : List ℕ) (s : List Segment) → old_text old (stays p s) ≡ p ++ old_text old s
old_stays old [] s = refl
old_stays old (b ∷ p) s = ap (λ l. b ∷ l) (old_stays old p s)

pub new_stays : (p : List ℕ) (s : List Segment) → new_text (stays p s) ≡ p ++ new_text s
new_stays [] s = refl
new_stays (b ∷ p) s = ap (λ l. b ∷ l) (new_stays p s)

words_stay : (p : List ℕ) (s : List Segment) → AreWords s → AreWords (stays p s)
words_stay [] s h = h
words_stay (b ∷ p) s h = words_stay p s h

pub take_over : (p xs : List ℕ) (j : ℕ) → take (length p + j) (p ++ xs) ≡ p ++ take j xs
take_over [] xs j = ap (λ n. take n xs) (omega arith)
take_over (b ∷ p) xs j = ap (λ n. take n (b ∷ p ++ xs)) (let e : length (b ∷ p) + j ≡ suc (length p + j) = omega arith in e) ∙ ap (λ l. b ∷ l) (take_over p xs j)

take_word : (w : List ℕ) (j : ℕ) → is_identifier w ≡ true → is_identifier (take (suc j) w) ≡ true
take_word [] j h = h
take_word (b ∷ bs) j h = let p = and_parts (starts_name b) (list_all is_word_byte bs) h in and_from (starts_name b) _ p.0 (front j bs p.1)
  where
    front : (j : ℕ) (bs : List ℕ) → list_all is_word_byte bs ≡ true → list_all is_word_byte (take j bs) ≡ true
    front zero bs h = refl
    front (suc j) [] h = refl
    front (suc j) (b ∷ bs) h = let p = and_parts (is_word_byte b) (list_all is_word_byte bs) h in and_from (is_word_byte b) _ p.0 (front j bs p.1)

-- the segments of a front of the new text
record IsCut (name : List ℕ) (s : List Segment) (j : ℕ) : Type 0 where
  front : List Segment
  here : ℕ
  words : AreWords front
  fresh : new_text front ≡ take j (new_text s)
  before : old_text name front ≡ take here (old_text name s)
  within : here ≤ length (old_text name s)
  some : 0 < j → 0 < length (new_text s) → 0 < here

module _ (name : List ℕ) (is : is_identifier name ≡ true) where
  long : 0 < length name
  long = by name is
    where
      by : (xs : List ℕ) → is_identifier xs ≡ true → 0 < length xs
      by [] h = cc
      by (x ∷ xs) h = omega arith

  cut_at : (s : List Segment) (j : ℕ) → AreWords s → IsCut name s j
  cut_at s zero h = record { front = []; here = 0; words = tt; fresh = refl; before = refl; within = omega arith; some = λ a b. absurd (omega arith) }
  cut_at [] (suc j) h = record { front = []; here = 0; words = tt; fresh = refl; before = refl; within = omega arith; some = λ a b. absurd (omega arith) }
  cut_at (Stays b ∷ s) (suc j) h =
      let k = cut_at s j h in
      record {
        front = Stays b ∷ k.front;
        here = suc k.here;
        words = k.words;
        fresh = ap (λ l. b ∷ l) k.fresh;
        before = ap (λ l. b ∷ l) k.before;
        within = omega (arith, k.within);
        some = λ x y. omega arith;
      }
  cut_at (Word w ∷ s) (suc j) h = by (cases_lt j (length w)) (λ i. cut_at s i h.1)
    where
      by : (j < length w) ⊎ (length w ≤ j) → ((i : ℕ) → IsCut name s i) → IsCut name (Word w ∷ s) (suc j)
      by (inl l) k = record {
        front = Word (take (suc j) w) ∷ [];
        here = length name;
        words = (take_word w j h.0, tt);
        fresh = append-nil (take (suc j) w) ∙ sym (take-append-le (suc j) w (new_text s) l);
        before = append-nil name ∙ sym (take-append_seam name (old_text name s));
        within = omega (arith, length-append name (old_text name s));
        some = λ x y. long;
      }
      by (inr g) k =
          let r = k (suc j - length w) in
          record {
            front = Word w ∷ r.front;
            here = length name + r.here;
            words = (h.0, r.words);
            fresh = ap (λ l. w ++ l) r.fresh ∙ sym (take_over w (new_text s) (suc j - length w)) ∙ ap (λ n. take n (w ++ new_text s)) (let e : length w + (suc j - length w) ≡ suc j = omega arith in e);
            before = ap (λ l. name ++ l) r.before ∙ sym (take_over name (old_text name s) r.here);
            within = omega (arith, r.within, length-append name (old_text name s));
            some = λ x y. omega (arith, long);
          }

  -- the byte behind the longest part makes no longer number
  no_number : (a : ℕ) (p : List ℕ) (s : List Segment) (j : ℕ) → AreWords s → 0 < j
      → (0 < length (old_text name s) → part_of (a ∷ p ++ take 1 (old_text name s)) ≡ None) → 0 < length (new_text s) → is_number (a ∷ p ++ take j (new_text s)) ≡ false
  no_number a p s zero h pos none size = absurd (omega arith)
  no_number a p [] (suc j) h pos none size = absurd (omega arith)
  no_number a p (Stays b ∷ s) (suc j) h pos none size = by (is_number (a ∷ p ++ b ∷ take j (new_text s))) refl
    where
      by : (t : Bool) → is_number (a ∷ p ++ b ∷ take j (new_text s)) ≡ t → is_number (a ∷ p ++ b ∷ take j (new_text s)) ≡ false
      by true e = let bad : true ≡ false = sym (number_front a p b (take j (new_text s)) e) ∙ number_none (a ∷ p ++ b ∷ []) (none (omega arith)) in cc
      by false e = e
  no_number a p (Word w ∷ s) (suc j) h pos none size = by w name h.0 is none
    where
      by : (w old : List ℕ) → is_identifier w ≡ true → is_identifier old ≡ true → (0 < length (old ++ old_text name s) → part_of (a ∷ p ++ take 1 (old ++ old_text name s)) ≡ None) → is_number (a ∷ p ++ take (suc j) (w ++ new_text s)) ≡ false
      by [] old f g none = cc
      by (y ∷ ys) [] f g none = cc
      by (y ∷ ys) (o ∷ os) f g none = on (is_number (a ∷ p ++ y ∷ take j (ys ++ new_text s))) refl
        where
          on : (t : Bool) → is_number (a ∷ p ++ y ∷ take j (ys ++ new_text s)) ≡ t → is_number (a ∷ p ++ y ∷ take j (ys ++ new_text s)) ≡ false
          on true e =
              let n = number_letter a p y o (and_parts (starts_name y) (list_all is_word_byte ys) f).0 (and_parts (starts_name o) (list_all is_word_byte os) g).0 (number_front a p y (take j (ys ++ new_text s)) e) in
              let bad : true ≡ false = sym n ∙ number_none (a ∷ p ++ o ∷ []) (none (omega arith)) in cc
          on false e = e

  -- no front that goes into what may be replaced is a part afterwards, if none was before
  none_after : (a : ℕ) (p : List ℕ) (s : List Segment) (j : ℕ) → AreWords s → 0 < j → j ≤ length (new_text s)
      → ((i : ℕ) → 0 < i → i ≤ length (old_text name s) → part_of (a ∷ p ++ take i (old_text name s)) ≡ None) → part_of (a ∷ p ++ take j (new_text s)) ≡ None
  none_after a p s j h pos size none =
      let k = cut_at s j h in
      let fresh : new_text (stays p k.front) ≡ p ++ take j (new_text s) = new_stays p k.front ∙ ap (λ l. p ++ l) k.fresh in
      let before : old_text name (stays p k.front) ≡ p ++ take k.here (old_text name s) = old_stays name p k.front ∙ ap (λ l. p ++ l) k.before in
      ap (λ l. part_of (a ∷ l)) (sym fresh)
      ∙ none_alike name is a (stays p k.front) (words_stay p k.front k.words)
      (ap (λ l. part_of (a ∷ l)) before ∙ none k.here (k.some pos (omega arith)) k.within)
      (ap (λ l. is_number (a ∷ l)) fresh ∙ no_number a p s j h pos (λ z. none 1 (omega arith) z) (omega arith))

  pub longest_kept : (a : ℕ) (p : List ℕ) (s : List Segment) (part : Part) → AreWords s → longest_part (a ∷ p ++ old_text name s) ≡ (suc (length p), part) → longest_part (a ∷ p ++ new_text s) ≡ (suc (length p), part)
  longest_kept a p s part h e = by (longest_gives (length (a ∷ p ++ old_text name s)) (a ∷ p ++ old_text name s) (suc (length p)) part e)
    where
      size : (xs : List ℕ) → length (p ++ xs) ≡ length p + length xs
      size xs = length-append p xs

      whole : (xs : List ℕ) → take (length p) (p ++ xs) ≡ p
      whole xs = ap (λ n. take n (p ++ xs)) (let z : length p ≡ length p + 0 = omega arith in z) ∙ take_over p xs 0 ∙ append-nil p

      above : ((i : ℕ) → suc (length p) < i → i ≤ length (a ∷ p ++ old_text name s) → part_of (take i (a ∷ p ++ old_text name s)) ≡ None) → (j : ℕ) → 0 < j → j ≤ length (new_text s) → part_of (a ∷ p ++ take j (new_text s)) ≡ None
      above none j pos g = none_after a p s j h pos g (λ i x y. ap (λ l. part_of (a ∷ l)) (sym (take_over p (old_text name s) i)) ∙ none (suc (length p + i)) (omega arith) (omega (arith, size (old_text name s))))

      fronts : ((i : ℕ) → suc (length p) < i → i ≤ length (a ∷ p ++ old_text name s) → part_of (take i (a ∷ p ++ old_text name s)) ≡ None) → (m : ℕ) → length p < m → m ≤ length (p ++ new_text s) → part_of (a ∷ take m (p ++ new_text s)) ≡ None
      fronts none m l g =
          ap (λ n. part_of (a ∷ take n (p ++ new_text s))) (let z : m ≡ length p + (m - length p) = omega arith in z)
          ∙ ap (λ l. part_of (a ∷ l)) (take_over p (new_text s) (m - length p))
          ∙ above none (m - length p) (omega arith) (omega (arith, size (new_text s)))

      by : Hit (length (a ∷ p ++ old_text name s)) (a ∷ p ++ old_text name s) (suc (length p)) part ⊎ Missed (length (a ∷ p ++ old_text name s)) (a ∷ p ++ old_text name s) (suc (length p)) part
          → longest_part (a ∷ p ++ new_text s) ≡ (suc (length p), part)
      by (inl (x, y, hit, none)) =
          longest_is a (p ++ new_text s) (length p) part (omega (arith, size (new_text s)))
          (ap (λ l. part_of (a ∷ l)) (whole (new_text s) ∙ sym (whole (old_text name s))) ∙ hit) (fronts none)
      by (inr (one, stray, none)) =
          stray_is a (p ++ new_text s) (λ m g. on m g (cases_lt 0 m)) ∙ ap (λ n. (n, Piece Stray)) (sym one) ∙ ap (λ x. (suc (length p), x)) (sym stray)
        where
          on : (m : ℕ) → m ≤ length (p ++ new_text s) → (0 < m) ⊎ (m ≤ 0) → part_of (a ∷ take m (p ++ new_text s)) ≡ None
          on m g (inl l) = fronts (λ i q r. none i (omega arith) r) m (omega arith) g
          on m g (inr l) = ap (λ n. part_of (a ∷ take n (p ++ new_text s))) (let z : m ≡ 0 = omega arith in z) ∙ none 1 (omega arith) (omega arith)

-- the new name in a place

-- what follows begins with no byte of a word, and with no quote that a name could prefix
abbrev pub Ends : List ℕ → List ℕ → Type 0
Ends name [] = Unit {0}
Ends name (b ∷ bs) = (is_word_byte b ≡ false) × (could_prefix name b ≡ false)

run_words : (name ws bs : List ℕ) → list_all is_word_byte ws ≡ true → Ends name bs → run is_word_byte (ws ++ bs) ≡ length ws
run_words name [] [] h e = refl
run_words name [] (b ∷ bs) h e = ap (λ t. if t then suc (run is_word_byte bs) else 0) e.0
run_words name (w ∷ ws) bs h e = let p = and_parts (is_word_byte w) (list_all is_word_byte ws) h in ap (λ t. if t then suc (run is_word_byte (ws ++ bs)) else 0) p.0 ∙ ap suc (run_words name ws bs p.1 e)

nothing : (a : ℕ) → HasNoLiteral a []
nothing a zero l = (by (is_wide a), text (is_wide a))
  where
    by : (t : Bool) → (t && false) ≡ false
    by true = refl
    by false = refl

    text : (t : Bool) → ((t && false) || false) ≡ false
    text true = refl
    text false = refl
nothing a (suc m) l = absurd (omega arith)

quotes : (w b : ℕ) → is_wide w ≡ true → could_prefix (w ∷ []) b ≡ false → ((b == 39) ≡ false) × ((b == 34) ≡ false)
quotes w b h k = by (or_cases (76 == w) ((117 == w) || ((85 == w) || false)) h)
  where
    parts : (p q : Bool) → ((p || q) || false) ≡ false → (p ≡ false) × (q ≡ false)
    parts true q h = cc
    parts false true h = cc
    parts false false h = (refl, refl)

    by : ((76 == w) ≡ true) ⊎ (((117 == w) || ((85 == w) || false)) ≡ true) → ((b == 39) ≡ false) × ((b == 34) ≡ false)
    by (inl e) = parts (b == 39) (b == 34) (ap (λ x. could_prefix (x ∷ []) b) (eqb-true 76 w e) ∙ k)
    by (inr e) = two (or_cases (117 == w) ((85 == w) || false) e)
      where
        two : ((117 == w) ≡ true) ⊎ (((85 == w) || false) ≡ true) → ((b == 39) ≡ false) × ((b == 34) ≡ false)
        two (inl e) = parts (b == 39) (b == 34) (ap (λ x. could_prefix (x ∷ []) b) (eqb-true 117 w e) ∙ k)
        two (inr e) = three (or_cases (85 == w) false e)
          where
            three : ((85 == w) ≡ true) ⊎ (false ≡ true) → ((b == 39) ≡ false) × ((b == 34) ≡ false)
            three (inl e) = parts (b == 39) (b == 34) (ap (λ x. could_prefix (x ∷ []) b) (eqb-true 85 w e) ∙ k)
            three (inr e) = cc

no_literal : (w : ℕ) (ws bs : List ℕ) → list_all is_word_byte ws ≡ true → Ends (w ∷ ws) bs → HasNoLiteral w (ws ++ bs)
no_literal w [] [] h e = nothing w
no_literal w [] (b ∷ bs) h e = by (is_wide w) refl
  where
    eight : (b : ℕ) → is_word_byte b ≡ false → (b == 56) ≡ false
    eight b h = by (b == 56) refl
      where
        by : (t : Bool) → (b == 56) ≡ t → t ≡ false
        by true e = let bad : true ≡ false = sym (ap is_word_byte (eqb-true b 56 e)) ∙ h in cc
        by false e = refl

    no : (t : Bool) → (t && false) ≡ false
    no true = refl
    no false = refl

    u : (t : Bool) → (w == 117) ≡ t → is_wide w ≡ false → (w == 117) ≡ false
    u true f g = let bad : true ≡ false = sym (ap is_wide (eqb-true w 117 f)) ∙ g in cc
    u false f g = f

    by : (t : Bool) → is_wide w ≡ t → HasNoLiteral w (b ∷ bs)
    by true f = let q = quotes w b f e.1 in no_quote w b bs q.0 q.1 (ap (λ t. w == 117 && (t && starts_with 34 bs)) (eight b e.0) ∙ no (w == 117))
    by false f = no_prefix w (b ∷ bs) f (u (w == 117) refl f)
no_literal w (x ∷ ws) bs h e = no_quote w x (ws ++ bs) (other x 39 p.0 refl) (other x 34 p.0 refl) (eight ws bs p.1 e)
  where
    p : (is_word_byte x ≡ true) × (list_all is_word_byte ws ≡ true)
    p = and_parts (is_word_byte x) (list_all is_word_byte ws) h

    other : (x q : ℕ) → is_word_byte x ≡ true → is_word_byte q ≡ false → (x == q) ≡ false
    other x q h k = by (x == q) refl
      where
        by : (t : Bool) → (x == q) ≡ t → t ≡ false
        by true e = let bad : true ≡ false = sym h ∙ ap is_word_byte (eqb-true x q e) ∙ k in cc
        by false e = refl

    no : (t u : Bool) → (t && (u && false)) ≡ false
    no true true = refl
    no true false = refl
    no false u = refl

    eight : (ws bs : List ℕ) → list_all is_word_byte ws ≡ true → Ends (w ∷ x ∷ ws) bs → (w == 117 && (x == 56 && starts_with 34 (ws ++ bs))) ≡ false
    eight (y ∷ ws) bs h e = ap (λ t. w == 117 && (x == 56 && t)) (other y 34 (and_parts (is_word_byte y) (list_all is_word_byte ws) h).0 refl) ∙ no (w == 117) (x == 56)
    eight [] [] h e = no (w == 117) (x == 56)
    eight [] (b ∷ bs) h e = by (w == 117) (x == 56) refl refl
      where
        quote : could_prefix (117 ∷ 56 ∷ []) b ≡ false → (b == 34) ≡ false
        quote k = k

        by : (t u : Bool) → (w == 117) ≡ t → (x == 56) ≡ u → (t && (u && b == 34)) ≡ false
        by true true f g = quote (sym (ap (λ y. could_prefix (y ∷ x ∷ []) b) (eqb-true w 117 f) ∙ ap (λ y. could_prefix (117 ∷ y ∷ []) b) (eqb-true x 56 g)) ∙ e.1)
        by true false f g = refl
        by false u f g = refl

pub longest_name : (name bs : List ℕ) → is_identifier name ≡ true → Ends name bs → longest_part (name ++ bs) ≡ (length name, Piece Ident)
longest_name [] bs h e = cc
longest_name (w ∷ ws) bs h e =
    let p = and_parts (starts_name w) (list_all is_word_byte ws) h in
    longest_word w (ws ++ bs) p.0 (no_literal w ws bs p.1 e) ∙ ap (λ n. (suc n, Piece Ident)) (run_words (w ∷ ws) ws bs p.1 e)
