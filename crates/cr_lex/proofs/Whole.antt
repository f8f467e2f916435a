-- A text without line feeds, and its first part.
use Rattle.std.proofs.Common.{◌≡◌, ℕ, zero, suc, ◌+◌, ◌-◌, ◌<◌, ◌≤◌, ◌⊎◌, inl, inr, Bool, true, false, not, ◌&&◌, cond, List, [], ◌∷◌, length, get_or, take, drop, Option, Some, None, refl, ap, sym, ◌∙◌, arith, codes, drop_of_length-le, take_all}
use Rattle.std.specs.Prelude.{◌==◌}
use Rattle.std.specs.List.{list_all}
use Rattle.std.specs.Option.{option_map}
use Rattle.std.proofs.lemmas.Bool.{cases_lt, and_parts, eqb-true, eq-eqb}
use Rattle.std.proofs.lemmas.Bool.Decides.{nat_tests}
use Rattle.std.proofs.lemmas.List.{drop_more, length-map}
use Rattle.cr_base.specs.Names.{is_identifier}
use Rattle.cr_base.specs.declared.token.PpKind.{PpKind}
use Rattle.cr_base.specs.declared.token.PpKind.TheVariants.{Ident, Number, Char, Str, Punct, Stray}
use Rattle.cr_lex.specs.Spellings as spellings
use Rattle.cr_lex.specs.Spellings.{Piece, part_of, token_kind, is_blank, is_blank_byte, is_line_end, is_comment, is_number, is_char, is_string, is_punctuator, is_empty, is_one_of, is_up_to_end}
use Rattle.cr_lex.specs.Joins.{Cell, join_len, text_of, begins}
use Rattle.cr_lex.specs.Lexing.{longest, longest_part, or_shorter}
use Rattle.cr_lex.specs.Scanning.{behind, IsByte, part_behind, whole_kind, is_not_line_feed}
use Rattle.cr_lex.specs.Joins.{rest}
use Rattle.cr_lex.specs.declared.cell.Byte.{Byte}
use Rattle.cr_lex.specs.declared.part.Found.{Found}
use Rattle.cr_lex.specs.declared.part.Found.TheVariants as found
use Rattle.cr_lex.specs.declared.part.Part.{Part}
use Rattle.cr_lex.proofs.Cells.{rest_byte, rest_end}
use Rattle.cr_lex.proofs.Longest.{longest_hit, longest_small}
use Rattle.cr_lex.proofs.Classes.{token_blank, token_end, token_comment}
use Rattle.cr_lex.proofs.First.{IsLongest}
use Rattle.cr_lex.proofs.Found.{found_is_first}
use Rattle.cr_lex.proofs.Lines.{OneLine}

line_drop : (n : ℕ) (bs : List ℕ) → OneLine bs → OneLine (drop n bs)
line_drop zero bs h = h
line_drop (suc n) [] h = h
line_drop (suc n) (b ∷ bs) h = line_drop n bs (and_parts (not (b == 10)) (list_all is_not_line_feed bs) h).1

no_feed : (b : ℕ) (bs : List ℕ) → OneLine (b ∷ bs) → (10 == b) ≡ false
no_feed b bs h = by b (and_parts (not (b == 10)) (list_all is_not_line_feed bs) h).0
  where
    by : (b : ℕ) → not (b == 10) ≡ true → (10 == b) ≡ false
    by b h = grind (arith, nat_tests)

no_join : (bs : List ℕ) → OneLine bs → join_len bs ≡ 0
no_join [] h = refl
no_join (a ∷ []) h = by (92 == a)
  where
    by : (t : Bool) → ◌≡◌ {A = ℕ} (cond (t && false) 2 (cond (t && false) 3 0)) 0
    by true = refl
    by false = refl
no_join (a ∷ b ∷ []) h = by (92 == a) (10 == b) (13 == b) (no_feed b [] (line_drop 1 (a ∷ b ∷ []) h))
  where
    by : (t u v : Bool) → u ≡ false → ◌≡◌ {A = ℕ} (cond (t && (u && true)) 2 (cond (t && (v && false)) 3 0)) 0
    by true true v e = cc
    by true false true e = refl
    by true false false e = refl
    by false u v e = refl
no_join (a ∷ b ∷ c ∷ bs) h = by (92 == a) (10 == b) (13 == b) (10 == c) (no_feed b (c ∷ bs) (line_drop 1 (a ∷ b ∷ c ∷ bs) h)) (no_feed c bs (line_drop 2 (a ∷ b ∷ c ∷ bs) h))
  where
    by : (t u v w : Bool) → u ≡ false → w ≡ false → ◌≡◌ {A = ℕ} (cond (t && (u && true)) 2 (cond (t && (v && (w && true))) 3 0)) 0
    by true true v w e f = cc
    by true false true true e f = cc
    by true false true false e f = refl
    by true false false w e f = refl
    by false u v w e f = refl

plain_line : (bytes : List ℕ) → OneLine bytes → (i : ℕ) → join_len (drop i bytes) ≡ 0
plain_line bytes h i = no_join (drop i bytes) (line_drop i bytes h)

plain_rest : (n : ℕ) (bytes : List ℕ) (from : ℕ) → length bytes - from ≤ n → OneLine bytes → text_of (rest bytes from) ≡ drop from bytes
plain_rest zero bytes from size h = ap text_of (rest_end bytes from (omega arith)) ∙ sym (drop_of_length-le bytes (omega arith))
plain_rest (suc n) bytes from size h = by (cases_lt from (length bytes)) (plain_rest n bytes (from + 1) (omega arith) h)
  where
    by : (from < length bytes) ⊎ (length bytes ≤ from) → text_of (rest bytes (from + 1)) ≡ drop (from + 1) bytes → text_of (rest bytes from) ≡ drop from bytes
    by (inr g) ih = ap text_of (rest_end bytes from g) ∙ sym (drop_of_length-le bytes g)
    by (inl l) ih = ap text_of (rest_byte bytes from l (plain_line bytes h from)) ∙ ap (λ l. get_or bytes from 0 ∷ l) ih ∙ sym (drop_more bytes from 0 l)

pub plain_behind : (k : ℕ) (bytes : List ℕ) (from : ℕ) → from + k ≤ length bytes → OneLine bytes → behind k from (rest bytes from) ≡ from + k
plain_behind zero bytes from size h = omega arith
plain_behind (suc k) bytes from size h =
    ap (behind (suc k) from) (rest_byte bytes from (omega arith) (plain_line bytes h from))
    ∙ plain_behind k bytes (from + 1) (omega arith) h ∙ (let e : from + 1 + k ≡ from + suc k = omega arith in e)

-- the tests of tokens and those of white space exclude each other
kind_part : (text : List ℕ) (kind : PpKind) → token_kind text ≡ Some kind → part_of text ≡ Some (Piece kind)
unfolding part_of
kind_part text kind h = by (is_blank text) (is_line_end text) (is_comment text) refl refl refl
  where
    by : (bl le co : Bool) → is_blank text ≡ bl → is_line_end text ≡ le → is_comment text ≡ co → cond bl (Some spellings.Blank) (cond le (Some spellings.LineEnd) (cond co (Some spellings.Comment) (option_map Piece (token_kind text)))) ≡ Some (Piece kind)
    by true le co e f g = let bad = sym (token_blank text e) ∙ h in cc
    by false true co e f g = let bad = sym (token_end text f) ∙ h in cc
    by false false true e f g = let bad = sym (token_comment text g) ∙ h in cc
    by false false false e f g = ap (option_map Piece) h

part_kind : (text : List ℕ) (kind : PpKind) → part_of text ≡ Some (Piece kind) → token_kind text ≡ Some kind
unfolding part_of
part_kind text kind h = by (is_blank text) (is_line_end text) (is_comment text) (token_kind text) h
  where
    by : (bl le co : Bool) (o : Option PpKind) → cond bl (Some spellings.Blank) (cond le (Some spellings.LineEnd) (cond co (Some spellings.Comment) (option_map Piece o))) ≡ Some (Piece kind) → o ≡ Some kind
    by true le co o e = cc
    by false true co o e = cc
    by false false true o e = cc
    by false false false None e = cc
    by false false false (Some k) e = cc

no_stray : (text : List ℕ) → token_kind text ≡ Some Stray → ⊥
unfolding token_kind
no_stray text h = by (is_identifier text) (is_number text) (is_char text) (is_string text) (is_punctuator text) h
  where
    by : (i n c s p : Bool) → cond i (Some Ident) (cond n (Some Number) (cond c (Some Char) (cond s (Some Str) (cond p (Some Punct) None)))) ≡ Some Stray → ⊥
    by true n c s p h = cc
    by false true c s p h = cc
    by false false true s p h = cc
    by false false false true p h = cc
    by false false false false true h = cc
    by false false false false false h = cc

-- the longest part is the whole text
only_token : (n : ℕ) (text : List ℕ) (kind : PpKind) → take (suc n) text ≡ text → longest (suc n) text ≡ (suc n, Piece kind) → (kind ≡ Stray → ⊥) → part_of text ≡ Some (Piece kind)
unfolding longest
only_token n text kind all h ne = by (part_of text) (ap (λ t. or_shorter (suc n) (longest n text) (part_of t)) (sym all) ∙ h) (longest_small n text)
  where
    by : (o : Option spellings.Part) → or_shorter (suc n) (longest n text) o ≡ (suc n, Piece kind) → ((longest n text).0 ≤ n) ⊎ (longest n text ≡ (1, Piece Stray)) → o ≡ Some (Piece kind)
    by (Some p) e f = let same : p ≡ Piece kind = ap (λ x. x.1) e in ap Some same
    by None e (inl f) = let same : (longest n text).0 ≡ suc n = ap (λ x. x.0) e in absurd (omega arith)
    by None e (inr f) = let same : Piece Stray ≡ Piece kind = ap (λ x. x.1) (sym f ∙ e) in let k : kind ≡ Stray = cc in absurd (ne k)

kind_is : (kind : PpKind) → (kind ≡ Stray → ⊥) → whole_kind true (found.Piece kind) ≡ Some kind
kind_is Ident ne = refl
kind_is Number ne = refl
kind_is Char ne = refl
kind_is Str ne = refl
kind_is Punct ne = refl
kind_is Stray ne = absurd (ne refl)

kind_not : (whole : Bool) (kind : PpKind) → ((kind ≡ Stray → ⊥) → whole ≡ true → ⊥) → whole_kind whole (found.Piece kind) ≡ None
kind_not true Ident h = absurd (h (λ e. cc) refl)
kind_not true Number h = absurd (h (λ e. cc) refl)
kind_not true Char h = absurd (h (λ e. cc) refl)
kind_not true Str h = absurd (h (λ e. cc) refl)
kind_not true Punct h = absurd (h (λ e. cc) refl)
kind_not true Stray h = refl
kind_not false Ident h = refl
kind_not false Number h = refl
kind_not false Char h = refl
kind_not false Str h = refl
kind_not false Punct h = refl
kind_not false Stray h = refl

short_open : (a : ℕ) (bs : List ℕ) → length bs ≡ 0 → begins (codes "/*") (a ∷ bs) ≡ true → ⊥
short_open a [] z h = by (47 == a) h
  where
    by : (t : Bool) → (t && false) ≡ true → ⊥
    by true h = cc
    by false h = cc
short_open a (b ∷ bs) z h = absurd (omega arith)

module _ (n k : ℕ) (a : ℕ) (bs : List ℕ) (size : length (a ∷ bs) ≡ suc n) where
  all : take (suc n) (a ∷ bs) ≡ a ∷ bs
  all = take_all (suc n) (a ∷ bs) (omega arith)

  whole_some : (kind : PpKind) (what : Found) → token_kind (a ∷ bs) ≡ Some kind → longest_part (a ∷ bs) ≡ (suc n, Piece kind) → IsLongest a bs k what → whole_kind (suc k == suc n) what ≡ Some kind
  whole_some kind found.Space t l (inl h) = let bad : Piece kind ≡ spellings.Blank = ap (λ x. x.1) (sym l ∙ h) in cc
  whole_some kind found.Space t l (inr h) = let bad : Piece kind ≡ spellings.Comment = ap (λ x. x.1) (sym l ∙ h) in cc
  whole_some kind found.LineEnd t l h = let bad : Piece kind ≡ spellings.LineEnd = ap (λ x. x.1) (sym l ∙ h) in cc
  whole_some kind found.OpenComment t l (h, o) = let one : suc n ≡ 1 = ap (λ x. x.0) (sym l ∙ h) in absurd (short_open a bs (omega arith) o)
  whole_some kind (found.Piece other) t l (h, o) =
      let same : other ≡ kind = (let p : Piece other ≡ Piece kind = ap (λ x. x.1) (sym h ∙ l) in cc) in
      let long : suc k ≡ suc n = ap (λ x. x.0) (sym h ∙ l) in
      ap (λ b. whole_kind b (found.Piece other)) (eq-eqb (suc k) (suc n) long)
      ∙ ap (λ x. whole_kind true (found.Piece x)) same
      ∙ kind_is kind (λ e. no_stray (a ∷ bs) (t ∙ ap Some e))

  whole_none : (what : Found) → token_kind (a ∷ bs) ≡ None → IsLongest a bs k what → whole_kind (suc k == suc n) what ≡ None
  whole_none found.Space t h = refl
  whole_none found.LineEnd t h = refl
  whole_none found.OpenComment t h = refl
  whole_none (found.Piece kind) t (h, o) =
      kind_not (suc k == suc n) kind (λ ne w.
      let long : suc k ≡ suc n = eqb-true (suc k) (suc n) w in
      let l : longest (suc n) (a ∷ bs) ≡ (suc n, Piece kind) = ap (λ m. longest m (a ∷ bs)) (sym size) ∙ h ∙ ap (λ m. (m, Piece kind)) long in
      let some : token_kind (a ∷ bs) ≡ Some kind = part_kind (a ∷ bs) kind (only_token n (a ∷ bs) kind all l ne) in
      let bad : Some kind ≡ None = sym some ∙ t in cc)

  pub whole_by : (what : Found) → IsLongest a bs k what → whole_kind (suc k == suc n) what ≡ token_kind (a ∷ bs)
  whole_by what h = by (token_kind (a ∷ bs)) refl
    where
      by : (o : Option PpKind) → token_kind (a ∷ bs) ≡ o → whole_kind (suc k == suc n) what ≡ o
      by None t = whole_none what t h
      by (Some kind) t =
          whole_some kind what t
          (ap (λ m. longest m (a ∷ bs)) size ∙ longest_hit n (a ∷ bs) (Piece kind) (ap part_of all ∙ kind_part (a ∷ bs) kind t))
          h

-- the length of a part that is none without an end
fits : (n k a : ℕ) (bs : List ℕ) (what : Found) → length (a ∷ bs) ≡ suc n → IsLongest a bs k what → (k ≤ n) ⊎ (what ≡ found.OpenComment)
fits n k a bs what size h = by what h
  where
    small : (p : spellings.Part) → longest_part (a ∷ bs) ≡ (suc k, p) → k ≤ n
    small p e = from (longest_small (suc n) (a ∷ bs))
      where
        long : longest (suc n) (a ∷ bs) ≡ (suc k, p)
        long = ap (λ m. longest m (a ∷ bs)) (sym size) ∙ e

        from : ((longest (suc n) (a ∷ bs)).0 ≤ suc n) ⊎ (longest (suc n) (a ∷ bs) ≡ (1, Piece Stray)) → k ≤ n
        from (inl l) = let q : (longest (suc n) (a ∷ bs)).0 ≡ suc k = ap (λ x. x.0) long in omega arith
        from (inr l) = let q : 1 ≡ suc k = ap (λ x. x.0) (sym l ∙ long) in omega arith

    by : (what : Found) → IsLongest a bs k what → (k ≤ n) ⊎ (what ≡ found.OpenComment)
    by found.Space (inl e) = inl (small spellings.Blank e)
    by found.Space (inr e) = inl (small spellings.Comment e)
    by found.LineEnd e = inl (small spellings.LineEnd e)
    by found.OpenComment e = inr refl
    by (found.Piece kind) (e, o) = inl (small (Piece kind) e)

-- the first part of a text of one line, and the kind of the text
abbrev first_at : List Cell → ℕ
first_at [] = 0
first_at (c ∷ cs) = c.at

pub whole_is : (text : List ℕ) (b : Byte) (p : Part) → OneLine text → IsByte text b → rest text 0 ≡ rest text b.at → p ≡ part_behind b.byte (b.at + 1) (rest text (b.at + 1))
    → whole_kind (p.end == length text) p.found ≡ token_kind text
whole_is text b p h is same e =
    let cs : List Cell = rest text (b.at + 1) in
    let spelled : text ≡ get_or text b.at 0 ∷ text_of (rest text (b.at + 1)) = sym (plain_rest (length text) text 0 (omega arith) h) ∙ ap text_of same ∙ ap text_of is.cell in
    let size : length text ≡ suc (length (rest text (b.at + 1))) = ap length spelled ∙ ap suc (length-map (rest text (b.at + 1)) (λ (c : Cell). c.byte)) in
    let head : 0 ≡ b.at = ap first_at (sym (rest_byte text 0 (omega arith) (plain_line text h 0)) ∙ same ∙ is.cell) in
    let f = found_is_first _ _ (b.at + 1) (rest text (b.at + 1)) p is.byte e in
    let long : length (get_or text b.at 0 ∷ text_of (rest text (b.at + 1))) ≡ suc (length (rest text (b.at + 1))) = ap length (sym spelled) ∙ size in
    whole (length (rest text (b.at + 1))) f.0 (fits _ f.0 _ _ p.found long f.2) head size f.1
    ∙ whole_by (length (rest text (b.at + 1))) f.0 (get_or text b.at 0) (text_of (rest text (b.at + 1))) long p.found f.2
    ∙ ap token_kind (sym spelled)
  where
    whole : (n k : ℕ) → (k ≤ n) ⊎ (p.found ≡ found.OpenComment) → 0 ≡ b.at → length text ≡ suc n → p.end ≡ behind k (b.at + 1) (rest text (b.at + 1))
        → whole_kind (p.end == length text) p.found ≡ whole_kind (suc k == suc n) p.found
    whole n k (inr open_) z size end = ap (whole_kind (p.end == length text)) open_ ∙ sym (ap (whole_kind (suc k == suc n)) open_)
    whole n k (inl l) z size end =
        let at : p.end ≡ suc k = end ∙ plain_behind k text (b.at + 1) (omega arith) h ∙ (let q : b.at + 1 + k ≡ suc k = omega arith in q) in
        ap (λ x. whole_kind (x == length text) p.found) at ∙ ap (λ x. whole_kind (suc k == x) p.found) size

pub empty_is : (text : List ℕ) → OneLine text → rest text 0 ≡ [] → None ≡ token_kind text
unfolding token_kind
empty_is [] h e = refl
empty_is (a ∷ bs) h e = let bad = sym (rest_byte (a ∷ bs) 0 (omega arith) (plain_line (a ∷ bs) h 0)) ∙ e in cc
