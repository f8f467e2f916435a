-- The longest front that is a part, by the tests that each front passes.
use Rattle.std.proofs.Common.{◌≡◌, ℕ, zero, suc, ◌<◌, ◌≤◌, ◌⊎◌, inl, inr, Bool, true, false, ◌&&◌, ◌||◌, List, [], ◌∷◌, length, take, Option, Some, None, refl, ap, sym, ◌∙◌, arith, codes}
use Rattle.std.specs.Prelude.{◌==◌, if◌then◌else◌}
use Rattle.std.specs.List.{list_all}
use Rattle.std.specs.Option.{option_map}
use Rattle.std.proofs.lemmas.Bool.{cases_lt, and_left, eqb-true}
use Rattle.cr_base.specs.Names.{is_identifier, is_word_byte, starts_name}
use Rattle.cr_base.specs.declared.token.PpKind.TheVariants.{Ident, Number, Char, Str, Punct, Stray}
use Rattle.cr_lex.specs.Spellings.{Part, Blank, LineEnd, Comment, Piece, part_of, token_kind, is_blank, is_blank_byte, is_line_end, is_comment, is_number, is_char, is_string, is_punctuator, is_empty, is_one_of}
use Rattle.cr_lex.specs.Lexing.{longest, longest_part, or_shorter}

longest_none : (n k : ℕ) (text : List ℕ) → k ≤ n → ((m : ℕ) → k < m → m ≤ n → part_of (take m text) ≡ None) → longest n text ≡ longest k text
unfolding longest
longest_none zero k text h none = ap (λ j. longest j text) (let e : zero ≡ k = omega arith in e)
longest_none (suc n) k text h none = by (cases_lt k (suc n)) (λ l f. longest_none n k text l f)
  where
    by : (k < suc n) ⊎ (suc n ≤ k) → (k ≤ n → ((m : ℕ) → k < m → m ≤ n → part_of (take m text) ≡ None) → longest n text ≡ longest k text) → longest (suc n) text ≡ longest k text
    by (inl l) ih = ap (or_shorter (suc n) (longest n text)) (none (suc n) (omega arith) (omega arith)) ∙ ih (omega arith) (λ m a b. none m a (omega arith))
    by (inr g) ih = ap (λ j. longest j text) (let e : suc n ≡ k = omega arith in e)

pub longest_hit : (k : ℕ) (text : List ℕ) (part : Part) → part_of (take (suc k) text) ≡ Some part → longest (suc k) text ≡ (suc k, part)
unfolding longest
longest_hit k text part e = ap (or_shorter (suc k) (longest k text)) e

longest_zero : (text : List ℕ) → longest zero text ≡ (1, Piece Stray)
unfolding longest
longest_zero text = refl

-- a front of k bytes more than the first is the longest, if it is a part and no longer one is
pub longest_is : (a : ℕ) (bs : List ℕ) (k : ℕ) (part : Part) → k ≤ length bs → part_of (a ∷ take k bs) ≡ Some part
    → ((m : ℕ) → k < m → m ≤ length bs → part_of (a ∷ take m bs) ≡ None) → longest_part (a ∷ bs) ≡ (suc k, part)
longest_is a bs k part h e none =
    longest_none (suc (length bs)) (suc k) (a ∷ bs) (omega arith) (λ m l g. by m l g) ∙ longest_hit k (a ∷ bs) part e
  where
    by : (m : ℕ) → suc k < m → m ≤ suc (length bs) → part_of (take m (a ∷ bs)) ≡ None
    by zero l g = absurd (omega arith)
    by (suc m) l g = none m (omega arith) (omega arith)

-- no front is a part
pub stray_is : (a : ℕ) (bs : List ℕ) → ((m : ℕ) → m ≤ length bs → part_of (a ∷ take m bs) ≡ None) → longest_part (a ∷ bs) ≡ (1, Piece Stray)
stray_is a bs none =
    longest_none (suc (length bs)) zero (a ∷ bs) (omega arith) (λ m l g. by m l g) ∙ longest_zero (a ∷ bs)
  where
    by : (m : ℕ) → 0 < m → m ≤ suc (length bs) → part_of (take m (a ∷ bs)) ≡ None
    by zero l g = absurd (omega arith)
    by (suc m) l g = none m (omega arith)

-- the part that a text is, by the tests that it passes
abbrev pub decided : Bool → Bool → Bool → Bool → Bool → Bool → Bool → Bool → Option Part
decided blank end comment ident number char string punct =
    if blank then Some Blank
    else if end then Some LineEnd
    else if comment then Some Comment
    else option_map Piece (if ident then Some Ident else if number then Some Number else if char then Some Char else if string then Some Str else if punct then Some Punct else None)

pub part_by : (text : List ℕ) → {bl le co i n c s p : Bool} → is_blank text ≡ bl → is_line_end text ≡ le → is_comment text ≡ co → is_identifier text ≡ i → is_number text ≡ n → is_char text ≡ c → is_string text ≡ s → is_punctuator text ≡ p
    → part_of text ≡ decided bl le co i n c s p
unfolding part_of token_kind
part_by text {bl = bl} {le = le} {co = co} {i = i} {n = n} {c = c} {s = s} {p = p} ebl ele eco ei en ec es ep =
    ap (λ x. decided x (is_line_end text) (is_comment text) (is_identifier text) (is_number text) (is_char text) (is_string text) (is_punctuator text)) ebl
    ∙ ap (λ x. decided bl x (is_comment text) (is_identifier text) (is_number text) (is_char text) (is_string text) (is_punctuator text)) ele
    ∙ ap (λ x. decided bl le x (is_identifier text) (is_number text) (is_char text) (is_string text) (is_punctuator text)) eco
    ∙ ap (λ x. decided bl le co x (is_number text) (is_char text) (is_string text) (is_punctuator text)) ei
    ∙ ap (λ x. decided bl le co i x (is_char text) (is_string text) (is_punctuator text)) en
    ∙ ap (λ x. decided bl le co i n x (is_string text) (is_punctuator text)) ec
    ∙ ap (λ x. decided bl le co i n c x (is_punctuator text)) es
    ∙ ap (λ x. decided bl le co i n c s x) ep

-- what a text that begins with a byte can't be

unfoldable pub is_single : ℕ → Bool
is_single a = is_one_of (codes "[](){}.&*+-~!/%<>^|?:;=,#") a

pub miss_blank : (a : ℕ) (xs : List ℕ) → is_blank_byte a ≡ false → is_blank (a ∷ xs) ≡ false
miss_blank a xs e = ap (λ t. t && is_empty xs) e

pub miss_end : (a : ℕ) (xs : List ℕ) → (a == 10) ≡ false → is_line_end (a ∷ xs) ≡ false
miss_end a xs e = ap (λ t. t && is_empty xs) e

pub miss_comment : (a : ℕ) (xs : List ℕ) → (a == 47) ≡ false → is_comment (a ∷ xs) ≡ false
miss_comment a [] e = refl
miss_comment a (b ∷ bs) e = and_left (a == 47) _ e

pub miss_ident : (a : ℕ) (xs : List ℕ) → starts_name a ≡ false → is_identifier (a ∷ xs) ≡ false
miss_ident a xs e = and_left (starts_name a) (list_all is_word_byte xs) e

among : (some all : List ℕ) (a : ℕ) → list_all (is_one_of all) some ≡ true → is_one_of all a ≡ false → is_one_of some a ≡ false
among [] all a h e = refl
among (x ∷ some) all a h e = by (is_one_of all x) refl h (x == a) refl (λ k. among some all a k e)
  where
    by : (t : Bool) → is_one_of all x ≡ t → (t && list_all (is_one_of all) some) ≡ true → (u : Bool) → (x == a) ≡ u → (list_all (is_one_of all) some ≡ true → is_one_of some a ≡ false) → (u || is_one_of some a) ≡ false
    by false k h u g ih = cc
    by true k h true g ih = let bad : true ≡ false = sym k ∙ ap (is_one_of all) (eqb-true x a g) ∙ e in cc
    by true k h false g ih = ih h

one_byte : (x : ℕ) (all : List ℕ) (a : ℕ) → is_one_of all x ≡ true → is_one_of all a ≡ false → (a == x) ≡ false
one_byte x all a h e = by (a == x) refl
  where
    by : (t : Bool) → (a == x) ≡ t → t ≡ false
    by true g = sym (sym e ∙ ap (is_one_of all) (eqb-true a x g) ∙ h)
    by false g = refl

pub miss_punct : (a : ℕ) (xs : List ℕ) → is_single a ≡ false → is_punctuator (a ∷ xs) ≡ false
unfolding is_single
miss_punct a [] e = e
miss_punct a (b ∷ []) e =
    or_all _ _ _ _ _ _
    (and_left _ (b == 61) (among (codes "=!<>*/%+-&^|") (codes "[](){}.&*+-~!/%<>^|?:;=,#") a refl e))
    (and_left _ (a == b) (among (codes "+-<>&|#") (codes "[](){}.&*+-~!/%<>^|?:;=,#") a refl e))
    (and_left _ (b == 62) (one_byte 45 (codes "[](){}.&*+-~!/%<>^|?:;=,#") a refl e))
    (and_left _ (is_one_of (codes ":%") b) (one_byte 60 (codes "[](){}.&*+-~!/%<>^|?:;=,#") a refl e))
    (and_left _ (b == 62) (among (codes ":%") (codes "[](){}.&*+-~!/%<>^|?:;=,#") a refl e))
    (and_left _ (b == 58) (one_byte 37 (codes "[](){}.&*+-~!/%<>^|?:;=,#") a refl e))
  where
    or_all : (p q r s t u : Bool) → p ≡ false → q ≡ false → r ≡ false → s ≡ false → t ≡ false → u ≡ false → (p || q || r || s || t || u) ≡ false
    or_all p q r s t u e1 e2 e3 e4 e5 e6 = rw (e1, e2, e3, e4, e5, e6) refl
miss_punct a (b ∷ c ∷ []) e = by _ _ (and_left _ (b == 46 && c == 46) (one_byte 46 (codes "[](){}.&*+-~!/%<>^|?:;=,#") a refl e)) (and_left _ (a == b && c == 61) (among (codes "<>") (codes "[](){}.&*+-~!/%<>^|?:;=,#") a refl e))
  where
    by : (p q : Bool) → p ≡ false → q ≡ false → (p || q) ≡ false
    by p q f g = rw (f, g) refl
miss_punct a (b ∷ c ∷ d ∷ []) e = and_left _ (b == 58 && (c == 37 && d == 58)) (one_byte 37 (codes "[](){}.&*+-~!/%<>^|?:;=,#") a refl e)
miss_punct a (b ∷ c ∷ d ∷ f ∷ xs) e = refl

-- a front of at most n bytes, or a stray byte
pub longest_small : (n : ℕ) (text : List ℕ) → ((longest n text).0 ≤ n) ⊎ (longest n text ≡ (1, Piece Stray))
unfolding longest
longest_small zero text = inr refl
longest_small (suc n) text = by (part_of (take (suc n) text)) (longest_small n text)
  where
    by : (o : Option Part) → ((longest n text).0 ≤ n) ⊎ (longest n text ≡ (1, Piece Stray)) → ((or_shorter (suc n) (longest n text) o).0 ≤ suc n) ⊎ (or_shorter (suc n) (longest n text) o ≡ (1, Piece Stray))
    by None (inl h) = inl (omega arith)
    by None (inr e) = inr e
    by (Some p) h = inl (omega arith)
