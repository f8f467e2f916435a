-- The tokens of a file whose old name was replaced at places of such tokens.
use Rattle.std.proofs.Common.{◌≡◌, ℕ, zero, suc, ◌+◌, ◌-◌, ◌<◌, ◌≤◌, ◌⊎◌, inl, inr, Bool, true, false, not, ◌&&◌, cond, List, [], ◌∷◌, ◌++◌, length, map, take, drop, get_or, Option, Some, None, refl, ap, sym, ◌∙◌, subst, arith, codes, length-append, length-take-le, length-drop, take-append-drop}
use Rattle.std.specs.Prelude.{◌==◌, if◌then◌else◌}
use Rattle.std.specs.List.{list_all}
use Rattle.std.specs.Option.{option_map}
use Rattle.std.proofs.lemmas.Bool.{cases_eq, and_parts, eqb-true, eq-eqb, ne_eqb}
use Rattle.std.proofs.lemmas.List.{map-append, length-map}
use Rattle.cr_base.specs.Names.{is_identifier, is_word_byte, starts_name}
use Rattle.cr_base.specs.Substitution.{Rise, shifted}
use Rattle.cr_base.specs.declared.token.PpKind.{PpKind}
use Rattle.cr_base.specs.declared.token.PpKind.TheVariants.{Ident, Char, Str, Stray}
use Rattle.cr_lex.specs.Spellings.{Part, Piece, part_of}
use Rattle.cr_lex.specs.Spellings as spellings
use Rattle.cr_lex.specs.Joins.{Cell, text_of, begins, join_len}
use Rattle.cr_lex.specs.Lexing.{Token, Lexed, Fault, Before, longest_part, by_part, piece, cut, stop, token, with_token, unless_trigraph, first_trigraph, end_of}
use Rattle.cr_lex.specs.Lexing as lexing
use Rattle.cr_lex.specs.Scanning.{behind}
use Rattle.cr_lex.specs.Joins.{rest}
use Rattle.cr_lex.specs.Standing.{in_line}
use Rattle.cr_lex.specs.Renaming.{is_among, is_before_quote, shifted_fault, could_prefix}
use Rattle.cr_lex.proofs.Marks.{Rising, rest_rises}
use Rattle.cr_lex.proofs.First.{cut_one, cut_none, skip_cut, rest_next, rest_behind, ends_behind, Rising-behind}
use Rattle.cr_lex.proofs.Edited.{edited, name_cells, moved_to, edited_skip, no_join, word_is, identifier_words}
use Rattle.cr_lex.proofs.Segments.{Segment, Stays, Word, old_text, new_text, AreWords, with_letters}
use Rattle.cr_lex.proofs.Shifting.{IsOut, shifted-more, shifted-place, out_more, out_place}
use Rattle.cr_lex.proofs.Cells.{rest_byte, rest_end}
use Rattle.std.proofs.lemmas.List.{drop_more}
use Rattle.std.proofs.Math.Seq.{take-append_seam, drop-append_seam}
use Rattle.cr_lex.proofs.Keeping.{longest_kept, longest_name, longest_gives, Hit, Missed, take_over, Ends, stays, old_stays, new_stays}
use Rattle.cr_lex.proofs.Words.{word_by, word_char, word_string}
use Rattle.std.proofs.lemmas.List.Folds.{list_all-append}

-- a token is one of these
abbrev pub In : Token → List Token → Type 0
In t [] = ⊥
In t (u ∷ us) = (u ≡ t) ⊎ In t us

-- tokens of cells stand at or behind the first

tokens_behind : (b : Before) (skip from : ℕ) (cs : List Cell) (t : Token) → Rising from cs → In t (cut b skip cs).tokens → from ≤ t.at
unfolding cut
tokens_behind b skip from [] t r h = absurd h
tokens_behind b (suc skip) from (c ∷ cs) t r h = let k = tokens_behind b skip (c.at + 1) cs t r.1 h in omega (arith, r.0)
tokens_behind b zero from (c ∷ cs) t r h = by (longest_part (text_of (c ∷ cs))) h (λ b n k. tokens_behind b n (c.at + 1) cs t r.1 k)
  where
    later : (l : Lexed) (o : Option ℕ) → (In t l.tokens → from ≤ t.at) → In t (unless_trigraph l o).tokens → from ≤ t.at
    later l None k h = k h
    later l (Some at) k h = absurd h

    opened : (x : Bool) (f : Fault) (l : Lexed) → (In t l.tokens → from ≤ t.at) → In t (cond x (stop f) l).tokens → from ≤ t.at
    opened true f l k h = absurd h
    opened false f l k h = k h

    one : (u : Token) (us : List Token) → u.at ≡ c.at → (In t us → c.at + 1 ≤ t.at) → In t (u ∷ us) → from ≤ t.at
    one u us e k (inl same) = let q : t.at ≡ c.at = ap (λ x. x.at) (sym same) ∙ e in omega (arith, r.0)
    one u us e k (inr h) = let q = k h in omega (arith, r.0)

    by : (p : ℕ × Part) → In t (by_part b c cs (λ after n. cut after n cs) p).tokens → ((b : Before) (n : ℕ) → In t (cut b n cs).tokens → c.at + 1 ≤ t.at) → from ≤ t.at
    by (n, spellings.Blank) h ih = let q = ih (record b { space = true }) (n - 1) h in omega (arith, r.0)
    by (n, spellings.Comment) h ih = let q = ih (record b { space = true }) (n - 1) h in omega (arith, r.0)
    by (n, spellings.LineEnd) h ih = let q = ih (record { first = true; space = true }) (n - 1) h in omega (arith, r.0)
    by (n, Piece kind) h ih =
        opened (begins (codes "/*") (text_of (c ∷ cs))) (lexing.OpenComment c.at) _
        (later (with_token (token b kind c (take n (c ∷ cs))) (cut (record { first = false; space = false }) (n - 1) cs)) (first_trigraph (take n (c ∷ cs)))
        (one (token b kind c (take n (c ∷ cs))) (cut (record { first = false; space = false }) (n - 1) cs).tokens refl (ih (record { first = false; space = false }) (n - 1))))
        h

-- the first bytes of a comment are found alike
same_open : (old : List ℕ) → is_identifier old ≡ true → (a : ℕ) (s : List Segment) → AreWords s → begins (codes "/*") (a ∷ old_text old s) ≡ begins (codes "/*") (a ∷ new_text s)
same_open old name a [] h = refl
same_open old name a (Stays b ∷ s) h = refl
same_open old name a (Word w ∷ s) h = with_letters old name (λ xs ys. begins (codes "/*") (a ∷ xs ++ old_text old s) ≡ begins (codes "/*") (a ∷ ys ++ new_text s)) w h.0 (λ l m xs ys e f g i.
    ap (λ t. 47 == a && (t && begins [] (xs ++ old_text old s))) (star l e) ∙ sym (ap (λ t. 47 == a && (t && begins [] (ys ++ new_text s))) (star m f)))
  where
    star : (l : ℕ) → starts_name l ≡ true → (42 == l) ≡ false
    star l h = ne_eqb 42 l (λ e. let bad : true ≡ false = sym h ∙ ap starts_name (sym e) in cc)

-- parts of a cell list

text_moved : (shift : ℕ → ℕ) (cs : List Cell) → text_of (map (moved_to shift) cs) ≡ text_of cs
text_moved shift [] = refl
text_moved shift (c ∷ cs) = ap (λ l. c.byte ∷ l) (text_moved shift cs)

text_name : (at line : ℕ) (ws : List ℕ) (cs : List Cell) → text_of (name_cells at line ws ++ cs) ≡ ws ++ text_of cs
text_name at line [] cs = refl
text_name at line (w ∷ ws) cs = ap (λ l. w ∷ l) (text_name (at + 1) line ws cs)

trigraph_moved : (shift : ℕ → ℕ) (cs : List Cell) → first_trigraph (map (moved_to shift) cs) ≡ option_map shift (first_trigraph cs)
trigraph_moved shift [] = refl
trigraph_moved shift (c ∷ cs) = by c.trigraph (trigraph_moved shift cs)
  where
    by : (t : Bool) → first_trigraph (map (moved_to shift) cs) ≡ option_map shift (first_trigraph cs) → cond t (Some (shift c.at)) (first_trigraph (map (moved_to shift) cs)) ≡ option_map shift (cond t (Some c.at) (first_trigraph cs))
    by true h = refl
    by false h = h

no_trigraph : (at line : ℕ) (ws : List ℕ) → first_trigraph (name_cells at line ws) ≡ None
no_trigraph at line [] = refl
no_trigraph at line (w ∷ ws) = no_trigraph (at + 1) line ws

name_end : (at line w : ℕ) (ws : List ℕ) → end_of (name_cells at line (w ∷ ws)) ≡ at + length (w ∷ ws)
name_end at line w [] = omega arith
name_end at line w (v ∷ ws) = name_end (at + 1) line v ws ∙ (let e : at + 1 + length (v ∷ ws) ≡ at + length (w ∷ v ∷ ws) = omega arith in e)

name_length : (at line : ℕ) (ws : List ℕ) → length (name_cells at line ws) ≡ length ws
name_length at line [] = refl
name_length at line (w ∷ ws) = ap suc (name_length (at + 1) line ws)

take_name : (at line : ℕ) (ws : List ℕ) (cs : List Cell) → take (length ws) (name_cells at line ws ++ cs) ≡ name_cells at line ws
take_name at line [] cs = refl
take_name at line (w ∷ ws) cs = ap (λ l. record { byte = w; at = at; line = line; trigraph = false } ∷ l) (take_name (at + 1) line ws cs)

take_front : (xs ys : List Cell) (k : ℕ) → length xs ≡ k → take k (xs ++ ys) ≡ xs
take_front xs ys k e = ap (λ n. take n (xs ++ ys)) (sym e) ∙ take-append_seam xs ys

drop_front : (xs ys : List Cell) (k : ℕ) → length xs ≡ k → drop k (xs ++ ys) ≡ ys
drop_front xs ys k e = ap (λ n. drop n (xs ++ ys)) (sym e) ∙ drop-append_seam xs ys

end_moved : (shift : ℕ → ℕ) (c : Cell) (cs : List Cell) (e : ℕ) → end_of (c ∷ cs) ≡ suc e → end_of (map (moved_to shift) (c ∷ cs)) ≡ shift e + 1
end_moved shift c [] e h = ap (λ x. shift x + 1) (let q : c.at ≡ e = omega arith in q)
end_moved shift c (d ∷ cs) e h = end_moved shift d cs e h

name_text : (at line : ℕ) (ws : List ℕ) → text_of (name_cells at line ws) ≡ ws
name_text at line [] = refl
name_text at line (w ∷ ws) = ap (λ l. w ∷ l) (name_text (at + 1) line ws)

head_word : (xs : List ℕ) → is_identifier xs ≡ true → (b : ℕ) (bs ys : List ℕ) → b ∷ bs ≡ xs ++ ys → is_word_byte b ≡ true
head_word [] h b bs ys e = cc
head_word (x ∷ xs) h b bs ys e =
    let same : b ≡ x = cc in
    ap is_word_byte same ∙ (and_parts (is_word_byte x) (list_all is_word_byte xs) (identifier_words (x ∷ xs) h)).0

-- a name, cut before what doesn't go on with it
name_cut : (b : Before) (w : ℕ) (ws : List ℕ) (at line : ℕ) (cs : List Cell) → is_identifier (w ∷ ws) ≡ true → Ends (w ∷ ws) (text_of cs)
    → cut b zero (name_cells at line (w ∷ ws) ++ cs) ≡ with_token (token b Ident (record { byte = w; at = at; line = line; trigraph = false }) (name_cells at line (w ∷ ws))) (cut in_line zero cs)
name_cut b w ws at line cs h ends =
    cut_one b (record { byte = w; at = at; line = line; trigraph = false }) (name_cells (at + 1) line ws ++ cs)
    ∙ ap (by_part b (record { byte = w; at = at; line = line; trigraph = false }) (name_cells (at + 1) line ws ++ cs) (λ after n. cut after n (name_cells (at + 1) line ws ++ cs)))
    (ap (λ l. longest_part (w ∷ l)) (text_name (at + 1) line ws cs) ∙ longest_name (w ∷ ws) (text_of cs) h ends)
    ∙ ap (λ t. cond (t && begins (codes "*") (text_of (name_cells (at + 1) line ws ++ cs))) (stop (lexing.OpenComment at)) (unless_trigraph (with_token (token b Ident (record { byte = w; at = at; line = line; trigraph = false }) (take (suc (length ws)) (name_cells at line (w ∷ ws) ++ cs))) (cut in_line (suc (length ws) - 1) (name_cells (at + 1) line ws ++ cs))) (first_trigraph (take (suc (length ws)) (name_cells at line (w ∷ ws) ++ cs))))) (slash w (and_parts (starts_name w) (list_all is_word_byte ws) h).0)
    ∙ ap (λ l. unless_trigraph (with_token (token b Ident (record { byte = w; at = at; line = line; trigraph = false }) l) (cut in_line (suc (length ws) - 1) (name_cells (at + 1) line ws ++ cs))) (first_trigraph l)) (take_name at line (w ∷ ws) cs)
    ∙ ap (unless_trigraph (with_token (token b Ident (record { byte = w; at = at; line = line; trigraph = false }) (name_cells at line (w ∷ ws))) (cut in_line (suc (length ws) - 1) (name_cells (at + 1) line ws ++ cs)))) (no_trigraph at line (w ∷ ws))
    ∙ ap (with_token (token b Ident (record { byte = w; at = at; line = line; trigraph = false }) (name_cells at line (w ∷ ws))))
    (ap (λ n. cut in_line n (name_cells (at + 1) line ws ++ cs)) (let e : suc (length ws) - 1 ≡ length ws = omega arith in e)
    ∙ skip_cut in_line (length ws) (name_cells (at + 1) line ws ++ cs)
    ∙ ap (cut in_line zero) (drop_names ws (at + 1) line cs))
  where
    slash : (w : ℕ) → starts_name w ≡ true → (47 == w) ≡ false
    slash w h = ne_eqb 47 w (λ e. let bad : true ≡ false = sym h ∙ ap starts_name (sym e) in cc)

    drop_names : (ws : List ℕ) (at line : ℕ) (cs : List Cell) → drop (length ws) (name_cells at line ws ++ cs) ≡ cs
    drop_names [] at line cs = refl
    drop_names (w ∷ ws) at line cs = drop_names ws (at + 1) line cs

module _ (bytes old new : List ℕ) (os : List ℕ) (name : is_identifier old ≡ true) (fresh : is_identifier new ≡ true) (rise : Rise 0 os (length old) (length bytes))
    (raw : (p : ℕ) → is_among os p ≡ true → take (length old) (drop p bytes) ≡ old) where
  abbrev place : ℕ → Bool
  place = is_among os

  abbrev shift : ℕ → ℕ
  shift = shifted os (length old) (length new)

  abbrev E : List Cell → List Cell
  E cs = edited (is_among os) (shifted os (length old) (length new)) (length old) new zero cs

  abbrev Out : ℕ → Type 0
  Out p = IsOut (length old) (length new) os p

  abbrev ren : Token → Token
  ren t = record t { text = if is_among os t.at then new else t.text; at = shifted os (length old) (length new) t.at; end = shifted os (length old) (length new) t.end }

  abbrev renl : Lexed → Lexed
  renl l = record { tokens = map ren l.tokens; fault = option_map (shifted_fault (shifted os (length old) (length new))) l.fault }

  some : 0 < length old
  some = by old name
    where
      by : (xs : List ℕ) → is_identifier xs ≡ true → 0 < length xs
      by [] h = cc
      by (x ∷ xs) h = omega arith

  abbrev NoPlace : ℕ → ℕ → Type 0
  NoPlace from end = (p : ℕ) → from ≤ p → p < end → is_among os p ≡ false

  shift_run : (d p : ℕ) → Out p → NoPlace p (p + d) → (shift (p + d) ≡ shift p + d) × Out (p + d)
  shift_run zero p out none = (ap shift (let e : p + 0 ≡ p = omega arith in e) ∙ (let e : shift p ≡ shift p + 0 = omega arith in e), subst Out (let e : p ≡ p + 0 = omega arith in e) out)
  shift_run (suc d) p out none =
      let k = shift_run d (p + 1) (out_more (length old) (length new) os p out (none p (omega arith) (omega arith))) (λ q a b. none q (omega arith) (omega arith)) in
      let m = shifted-more (length old) (length new) os 0 (length bytes) p some rise out (none p (omega arith) (omega arith)) in
      let e : p + 1 + d ≡ p + suc d = omega arith in
      (ap shift (sym e) ∙ k.0 ∙ (let z : shift (p + 1) + d ≡ shift p + suc d = omega arith in z), subst Out e k.1)

  -- the bytes of the old name at a place
  name_rest : (ws ys : List ℕ) (q : ℕ) → list_all is_word_byte ws ≡ true → drop q bytes ≡ ws ++ ys → (drop (length ws) (rest bytes q) ≡ rest bytes (q + length ws)) × (text_of (rest bytes q) ≡ ws ++ text_of (rest bytes (q + length ws)))
  name_rest [] ys q h e = (ap (rest bytes) (let z : q ≡ q + 0 = omega arith in z), ap (λ n. text_of (rest bytes n)) (let z : q ≡ q + 0 = omega arith in z))
  name_rest (w ∷ ws) ys q h e =
      let p = and_parts (is_word_byte w) (list_all is_word_byte ws) h in
      let size : q < length bytes = omega (arith, ap length e, length-drop q bytes) in
      let here = rest_byte bytes q size (ap join_len e ∙ no_join w (ws ++ ys) (word_is w p.0).0) in
      let next = drop_more bytes q 0 size in
      let byte : get_or bytes q 0 ≡ w = cc in
      let tail : drop (q + 1) bytes ≡ ws ++ ys = cc in
      let k = name_rest ws ys (q + 1) p.1 tail in
      let z : q + 1 + length ws ≡ q + length (w ∷ ws) = omega arith in
      (ap (drop (suc (length ws))) here ∙ k.0 ∙ ap (rest bytes) z, ap text_of here ∙ ap (λ b. b ∷ text_of (rest bytes (q + 1))) byte ∙ ap (λ l. w ∷ l) (k.1 ∙ ap (λ n. ws ++ text_of (rest bytes n)) z))

  place_rest : (p : ℕ) → place p ≡ true → (drop (length old - 1) (rest bytes (p + 1)) ≡ rest bytes (p + length old)) × (text_of (rest bytes p) ≡ old ++ text_of (rest bytes (p + length old)))
  place_rest p h = by old refl name
    where
      by : (xs : List ℕ) → old ≡ xs → is_identifier xs ≡ true → (drop (length old - 1) (rest bytes (p + 1)) ≡ rest bytes (p + length old)) × (text_of (rest bytes p) ≡ old ++ text_of (rest bytes (p + length old)))
      by [] e k = cc
      by (x ∷ xs) e k =
          let all : drop p bytes ≡ (x ∷ xs) ++ drop (length old) (drop p bytes) = sym (take-append-drop (length old) (drop p bytes)) ∙ ap (λ l. l ++ drop (length old) (drop p bytes)) (raw p h ∙ e) in
          let size : p < length bytes = omega (arith, ap length all, length-drop p bytes) in
          let next = drop_more bytes p 0 size in
          let tail : drop (p + 1) bytes ≡ xs ++ drop (length old) (drop p bytes) = cc in
          let words = identifier_words (x ∷ xs) k in
          let front = name_rest (x ∷ xs) (drop (length old) (drop p bytes)) p words all in
          let back = name_rest xs (drop (length old) (drop p bytes)) (p + 1) (and_parts (is_word_byte x) (list_all is_word_byte xs) words).1 tail in
          let long : length old ≡ suc (length xs) = ap length e in (
            ap (λ n. drop n (rest bytes (p + 1))) (let z : length old - 1 ≡ length xs = omega arith in z) ∙ back.0 ∙ ap (rest bytes) (let z : p + 1 + length xs ≡ p + length old = omega arith in z),
            front.1 ∙ ap (λ n. (x ∷ xs) ++ text_of (rest bytes (p + n))) (sym long) ∙ ap (λ l. l ++ text_of (rest bytes (p + length old))) (sym e),
          )

  -- what stands from an offset on, as segments
  record IsText (from : ℕ) : Type 0 where
    parts : List Segment
    words : AreWords parts
    before : old_text old parts ≡ text_of (rest bytes from)
    after : new_text parts ≡ text_of (E (rest bytes from))

  not_place : (c : Cell) (cs : List Cell) → place c.at ≡ false → E (c ∷ cs) ≡ moved_to shift c ∷ E cs
  not_place c cs h = ap (λ t. cond t (name_cells (shift c.at) c.line new ++ edited place shift (length old) new (length old - 1) cs) (moved_to shift c ∷ E cs)) h

  at_place : (c : Cell) (cs : List Cell) → place c.at ≡ true → E (c ∷ cs) ≡ name_cells (shift c.at) c.line new ++ E (drop (length old - 1) cs)
  at_place c cs h =
      ap (λ t. cond t (name_cells (shift c.at) c.line new ++ edited place shift (length old) new (length old - 1) cs) (moved_to shift c ∷ E cs)) h
      ∙ ap (λ l. name_cells (shift c.at) c.line new ++ l) (edited_skip place shift (length old) new (length old - 1) cs)

  text_at : (n from : ℕ) → length bytes - from ≤ n → IsText from
  text_at zero from size = let e = rest_end bytes from (omega arith) in record { parts = []; words = tt; before = ap text_of (sym e); after = ap (λ cs. text_of (E cs)) (sym e) }
  text_at (suc n) from size = by (rest bytes from) refl (λ q h. text_at n q h)
    where
      by : (cs : List Cell) → rest bytes from ≡ cs → ((q : ℕ) → length bytes - q ≤ n → IsText q) → IsText from
      by [] e ih = record { parts = []; words = tt; before = ap text_of (sym e); after = ap (λ cs. text_of (E cs)) (sym e) }
      by (c ∷ cs) e ih = on (place c.at) refl
        where
          next : (cs ≡ rest bytes (c.at + 1)) × (c.at < length bytes) × (rest bytes c.at ≡ c ∷ cs) × (c.byte ≡ get_or bytes c.at 0)
          next = rest_next (length bytes - from) bytes from c cs (omega arith) e

          from_at : from ≤ c.at
          from_at = (subst (Rising from) e (rest_rises bytes from)).0

          on : (t : Bool) → place c.at ≡ t → IsText from
          on false h =
              let k = ih (c.at + 1) (omega (arith, next.1, from_at)) in
              record {
                parts = Stays c.byte ∷ k.parts;
                words = k.words;
                before = ap (λ l. c.byte ∷ l) (k.before ∙ ap text_of (sym next.0)) ∙ ap text_of (sym e);
                after = ap (λ l. c.byte ∷ l) (k.after ∙ ap (λ cs. text_of (E cs)) (sym next.0)) ∙ ap text_of (sym (not_place c cs h)) ∙ ap (λ cs. text_of (E cs)) (sym e);
              }
          on true h =
              let k = ih (c.at + length old) (omega (arith, next.1, from_at, some)) in
              let p = place_rest c.at h in
              record {
                parts = Word new ∷ k.parts;
                words = (fresh, k.words);
                before = ap (λ l. old ++ l) k.before ∙ sym p.1 ∙ ap text_of (next.2 ∙ sym e);
                after =
                    ap (λ l. new ++ l) k.after
                    ∙ ap (λ cs. new ++ text_of (E cs)) (sym p.0 ∙ ap (drop (length old - 1)) (sym next.0))
                    ∙ sym (text_name (shift c.at) c.line new (E (drop (length old - 1) cs)))
                    ∙ ap text_of (sym (at_place c cs h)) ∙ ap (λ cs. text_of (E cs)) (sym e);
              }

  -- the tokens that places stand for
  pub record IsGood (t : Token) : Type 0 where
    pub kind : t.kind ≡ Ident
    pub text : t.text ≡ old
    pub joined : t.joined ≡ false
    pub quote : is_before_quote new (rest bytes t.end) ≡ false

  abbrev pub Placed : ℕ → List Token → Type 0
  Placed from ts = (p : ℕ) → from ≤ p → is_among os p ≡ true → (t : Token) × In t ts × (t.at ≡ p) × IsGood t

  must_be_false : (b : Bool) → (b ≡ true → ⊥) → b ≡ false
  must_be_false true h = absurd (h refl)
  must_be_false false h = refl

  -- cells that are no places
  E_front : (k : ℕ) (c0 : ℕ) (cs : List Cell) → Rising c0 cs → NoPlace c0 (behind k c0 cs) → E cs ≡ map (moved_to shift) (take k cs) ++ E (drop k cs)
  E_front zero c0 cs r none = refl
  E_front (suc k) c0 [] r none = refl
  E_front (suc k) c0 (c ∷ cs) r none =
      let far = Rising-behind k (c.at + 1) cs r.1 in
      not_place c cs (none c.at r.0 (omega arith)) ∙ ap (λ l. moved_to shift c ∷ l) (E_front k (c.at + 1) cs r.1 (λ p a b. none p (omega (arith, r.0)) b))

  Rising-drop : (k c0 : ℕ) (cs : List Cell) → Rising c0 cs → Rising (behind k c0 cs) (drop k cs)
  Rising-drop zero c0 cs r = r
  Rising-drop (suc k) c0 [] r = tt
  Rising-drop (suc k) c0 (c ∷ cs) r = Rising-drop k (c.at + 1) cs r.1

  -- one part: its first cell, what is behind it, and how many more cells it has
  module _ (from : ℕ) (b : Before) (c : Cell) (cs : List Cell) (k : ℕ) (here : rest bytes from ≡ c ∷ cs) (fits : k ≤ length cs)
      (ih : (b : Before) → IsOut (length old) (length new) os (behind k (c.at + 1) cs) → Placed (behind k (c.at + 1) cs) (cut b zero (drop k cs)).tokens → cut b zero (E (drop k cs)) ≡ renl (cut b zero (drop k cs))) where
    abbrev end : ℕ
    end = behind k (c.at + 1) cs

    rises : Rising from (c ∷ cs)
    rises = subst (Rising from) here (rest_rises bytes from)

    next : (cs ≡ rest bytes (c.at + 1)) × (c.at < length bytes) × (rest bytes c.at ≡ c ∷ cs) × (c.byte ≡ get_or bytes c.at 0)
    next = rest_next (length bytes - from) bytes from c cs (omega arith) here

    abbrev after : Before → Lexed
    after b2 = cut b2 zero (drop k cs)

    -- tokens behind the part stand behind it
    later : (b2 : Before) (t : Token) → In t (cut b2 zero (drop k cs)).tokens → behind k (c.at + 1) cs ≤ t.at
    later b2 t h = tokens_behind b2 zero (behind k (c.at + 1) cs) (drop k cs) t (Rising-drop k (c.at + 1) cs rises.1) h

    E_cut : (b2 : Before) → Out (behind k (c.at + 1) cs) → NoPlace (c.at + 1) (behind k (c.at + 1) cs) → Placed (behind k (c.at + 1) cs) (cut b2 zero (drop k cs)).tokens → cut b2 (suc k - 1) (E cs) ≡ renl (cut b2 (suc k - 1) cs)
    E_cut b2 clear none placed =
        ap (λ n. cut b2 n (E cs)) (let e : suc k - 1 ≡ k = omega arith in e)
        ∙ skip_cut b2 k (E cs)
        ∙ ap (λ l. cut b2 zero (drop k l)) (E_front k (c.at + 1) cs rises.1 none)
        ∙ ap (cut b2 zero) (drop_front (map (moved_to shift) (take k cs)) (E (drop k cs)) k (length-map (take k cs) (moved_to shift) ∙ length-take-le k cs fits))
        ∙ ih b2 clear placed
        ∙ ap renl (sym (skip_cut b2 k cs) ∙ ap (λ n. cut b2 n cs) (let e : k ≡ suc k - 1 = omega arith in e))

    end_is : rest bytes (behind k (c.at + 1) cs) ≡ drop k cs
    end_is = ap (λ l. rest bytes (behind k (c.at + 1) l)) next.0 ∙ rest_behind bytes k (c.at + 1) ∙ ap (drop k) (sym next.0)

    tail : IsText (behind k (c.at + 1) cs)
    tail = text_at (length bytes) (behind k (c.at + 1) cs) (omega arith)

    abbrev front : List ℕ
    front = text_of (take k cs)

    long : length (text_of (take k cs)) ≡ k
    long = length-map (take k cs) (λ (x : Cell). x.byte) ∙ length-take-le k cs fits

    before_is : text_of cs ≡ text_of (take k cs) ++ old_text old tail.parts
    before_is =
        ap text_of (sym (take-append-drop k cs)) ∙ map-append (λ (x : Cell). x.byte) (take k cs) (drop k cs)
        ∙ ap (λ l. text_of (take k cs) ++ l) (ap text_of (sym end_is) ∙ sym tail.before)

    after_is : NoPlace (c.at + 1) (behind k (c.at + 1) cs) → text_of (E cs) ≡ text_of (take k cs) ++ new_text tail.parts
    after_is none =
        ap text_of (E_front k (c.at + 1) cs rises.1 none)
        ∙ map-append (λ (x : Cell). x.byte) (map (moved_to shift) (take k cs)) (E (drop k cs))
        ∙ ap (λ l. l ++ text_of (E (drop k cs))) (text_moved shift (take k cs))
        ∙ ap (λ l. text_of (take k cs) ++ l) (ap (λ l. text_of (E l)) (sym end_is) ∙ sym tail.after)

    kept_longest : (part : Part) → NoPlace (c.at + 1) (behind k (c.at + 1) cs) → longest_part (text_of (c ∷ cs)) ≡ (suc k, part) → longest_part (text_of (moved_to shift c ∷ E cs)) ≡ (suc k, part)
    kept_longest part none e =
        ap (λ l. longest_part (c.byte ∷ l)) (after_is none)
        ∙ longest_kept old name c.byte (text_of (take k cs)) tail.parts part tail.words
        (ap (λ l. longest_part (c.byte ∷ l)) (sym before_is) ∙ e ∙ ap (λ n. (suc n, part)) (sym long))
        ∙ ap (λ n. (suc n, part)) long

    words_stay : (p : List ℕ) (s : List Segment) → AreWords s → AreWords (stays p s)
    words_stay [] s h = h
    words_stay (x ∷ p) s h = words_stay p s h

    kept_open : NoPlace (c.at + 1) (behind k (c.at + 1) cs) → begins (codes "/*") (text_of (moved_to shift c ∷ E cs)) ≡ begins (codes "/*") (text_of (c ∷ cs))
    kept_open none =
        ap (λ l. begins (codes "/*") (c.byte ∷ l)) (after_is none ∙ sym (new_stays (text_of (take k cs)) tail.parts))
        ∙ sym (same_open old name c.byte (stays (text_of (take k cs)) tail.parts) (words_stay (text_of (take k cs)) tail.parts tail.words))
        ∙ ap (λ l. begins (codes "/*") (c.byte ∷ l)) (old_stays old (text_of (take k cs)) tail.parts ∙ sym before_is)

    -- where there is no place
    far : c.at + 1 ≤ behind k (c.at + 1) cs
    far = Rising-behind k (c.at + 1) cs rises.1

    none_left : Placed from [] → (q : ℕ) → NoPlace from q
    none_left placed q p a b = must_be_false (is_among os p) (λ h. (placed p a h).1)

    none_behind : (b2 : Before) → Placed from (cut b2 zero (drop k cs)).tokens → NoPlace from (behind k (c.at + 1) cs)
    none_behind b2 placed p a l = must_be_false (is_among os p) (λ h. let w = placed p a h in let g = later b2 w.0 w.1 in let e = w.2 in absurd (omega arith))

    none_inside : (b2 : Before) (t : Token) → t.at ≡ c.at → Placed from (t ∷ (cut b2 zero (drop k cs)).tokens) → NoPlace (c.at + 1) (behind k (c.at + 1) cs)
    none_inside b2 t e placed p a l = must_be_false (is_among os p) (λ h. by (placed p (omega (arith, rises.0)) h))
      where
        by : ((u : Token) × In u (t ∷ (cut b2 zero (drop k cs)).tokens) × (u.at ≡ p) × IsGood u) → ⊥
        by (u, inl same, at, good) = let q : u.at ≡ c.at = ap (λ x. x.at) (sym same) ∙ e in absurd (omega arith)
        by (u, inr h, at, good) = let g = later b2 u h in absurd (omega arith)

    placed_behind : (b2 : Before) → Placed from (cut b2 zero (drop k cs)).tokens → Placed (behind k (c.at + 1) cs) (cut b2 zero (drop k cs)).tokens
    placed_behind b2 placed p a h = placed p (omega (arith, rises.0, far)) h

    placed_rest : (b2 : Before) (t : Token) → t.at ≡ c.at → Placed from (t ∷ (cut b2 zero (drop k cs)).tokens) → Placed (behind k (c.at + 1) cs) (cut b2 zero (drop k cs)).tokens
    placed_rest b2 t e placed p a h = by (placed p (omega (arith, rises.0, far)) h)
      where
        by : ((u : Token) × In u (t ∷ (cut b2 zero (drop k cs)).tokens) × (u.at ≡ p) × IsGood u) → (u : Token) × In u (cut b2 zero (drop k cs)).tokens × (u.at ≡ p) × IsGood u
        by (u, inl same, at, good) = let q : u.at ≡ c.at = ap (λ x. x.at) (sym same) ∙ e in absurd (omega (arith, far))
        by (u, inr h, at, good) = (u, h, at, good)

    cut_after : (b2 : Before) → cut b2 (suc k - 1) cs ≡ cut b2 zero (drop k cs)
    cut_after b2 = ap (λ n. cut b2 n cs) (let e : suc k - 1 ≡ k = omega arith in e) ∙ skip_cut b2 k cs

    -- white space
    out_end : Out c.at → place c.at ≡ false → NoPlace (c.at + 1) (behind k (c.at + 1) cs) → Out (behind k (c.at + 1) cs)
    out_end out stay none =
        subst Out (let e : c.at + (behind k (c.at + 1) cs - c.at) ≡ behind k (c.at + 1) cs = omega (arith, far) in e)
        (shift_run (behind k (c.at + 1) cs - c.at) c.at out (λ p a g. elim (cases_eq p c.at) [ inl e ↦ ap (is_among os) e ∙ stay | inr ne ↦ none p (omega arith) (omega (arith, far)) ])).1

    kept_space : (b2 : Before) (part : Part) → Out c.at → ((l : List Cell) (d : Cell) → by_part b d l (λ after n. cut after n l) (suc k, part) ≡ cut b2 (suc k - 1) l)
        → longest_part (text_of (c ∷ cs)) ≡ (suc k, part) → Placed from (cut b2 (suc k - 1) cs).tokens → cut b zero (E (c ∷ cs)) ≡ renl (cut b2 (suc k - 1) cs)
    kept_space b2 part out same e placed =
        let at_end = subst (λ l. Placed from l.tokens) (cut_after b2) placed in
        let none = none_behind b2 at_end in
        let inner : NoPlace (c.at + 1) (behind k (c.at + 1) cs) = λ p a l. none p (omega (arith, rises.0)) l in
        ap (cut b zero) (not_place c cs (none c.at rises.0 (omega (arith, far))))
        ∙ cut_one b (moved_to shift c) (E cs)
        ∙ ap (by_part b (moved_to shift c) (E cs) (λ after n. cut after n (E cs))) (kept_longest part inner e)
        ∙ same (E cs) (moved_to shift c)
        ∙ E_cut b2 (out_end out (none c.at rises.0 (omega (arith, far))) inner) inner (placed_behind b2 at_end)

    -- tokens that stay
    own_is : NoPlace (c.at + 1) (behind k (c.at + 1) cs) → take (suc k) (moved_to shift c ∷ E cs) ≡ map (moved_to shift) (c ∷ take k cs)
    own_is none = ap (λ l. moved_to shift c ∷ l) (ap (take k) (E_front k (c.at + 1) cs rises.1 none) ∙ take_front (map (moved_to shift) (take k cs)) (E (drop k cs)) k (length-map (take k cs) (moved_to shift) ∙ length-take-le k cs fits))

    abbrev made : PpKind → List ℕ → ℕ → Bool → Token
    made kind text last inside = record { kind = kind; text = text; at = shift c.at; end = last; line = c.line; space = b.space; first = b.first; joined = inside }

    -- the first cell stands in no replaced name
    kept_token : (kind : PpKind) → Out c.at → place c.at ≡ false → NoPlace (c.at + 1) (behind k (c.at + 1) cs) → token b kind (moved_to shift c) (map (moved_to shift) (c ∷ take k cs)) ≡ ren (token b kind c (c ∷ take k cs))
    kept_token kind out stay none =
        ap₅ (text_moved shift (c ∷ take k cs) ∙ sym (ap (λ t. if t then new else text_of (c ∷ take k cs)) stay)) ends alike
      where
        at_end : end_of (c ∷ take k cs) ≡ behind k (c.at + 1) cs
        at_end = ends_behind k c cs

        d : ℕ
        d = behind k (c.at + 1) cs - c.at - 1

        inside : (x : ℕ) → x ≤ behind k (c.at + 1) cs - c.at → (shift (c.at + x) ≡ shift c.at + x) × Out (c.at + x)
        inside x l = shift_run x c.at out (λ p a g. elim (cases_eq p c.at) [ inl e ↦ ap (is_among os) e ∙ stay | inr ne ↦ none p (omega arith) (omega (arith, far)) ])

        ends : end_of (map (moved_to shift) (c ∷ take k cs)) ≡ shift (end_of (c ∷ take k cs))
        ends =
            let x : ℕ = behind k (c.at + 1) cs - c.at - 1 in
            let last = inside (behind k (c.at + 1) cs - c.at - 1) (omega arith) in
            let all = inside (behind k (c.at + 1) cs - c.at) (omega arith) in
            let z : c.at + (behind k (c.at + 1) cs - c.at) ≡ end_of (c ∷ take k cs) = omega (arith, far, at_end) in
            end_moved shift c (take k cs) (c.at + (behind k (c.at + 1) cs - c.at - 1)) (omega (arith, far, at_end))
            ∙ (let y : shift (c.at + (behind k (c.at + 1) cs - c.at - 1)) + 1 ≡ shift (c.at + (behind k (c.at + 1) cs - c.at)) = omega (arith, last.0, all.0, far) in y)
            ∙ ap shift z

        alike : not (end_of (map (moved_to shift) (c ∷ take k cs)) == shift c.at + length (map (moved_to shift) (c ∷ take k cs))) ≡ not (end_of (c ∷ take k cs) == c.at + length (c ∷ take k cs))
        alike =
            let all = inside (behind k (c.at + 1) cs - c.at) (omega arith) in
            let z : c.at + (behind k (c.at + 1) cs - c.at) ≡ end_of (c ∷ take k cs) = omega (arith, far, at_end) in
            let moved : shift (end_of (c ∷ take k cs)) ≡ shift c.at + (behind k (c.at + 1) cs - c.at) = ap shift (sym z) ∙ all.0 in
            let size : length (map (moved_to shift) (c ∷ take k cs)) ≡ length (c ∷ take k cs) = length-map (c ∷ take k cs) (moved_to shift) in
            ap not (same_test _ _ _ _ (omega (arith, ends, moved, size, at_end, far)))
          where
            same_test : (p q r s : ℕ) → (p + s ≡ r + q) → (p == q) ≡ (r == s)
            same_test p q r s e = elim (cases_eq p q) [
              | inl x ↦ eq-eqb p q x ∙ sym (eq-eqb r s (omega arith))
              | inr x ↦ ne_eqb p q x ∙ sym (ne_eqb r s (λ y. x (omega arith)))
            ]

        ap₅ : text_of (map (moved_to shift) (c ∷ take k cs)) ≡ (if is_among os c.at then new else text_of (c ∷ take k cs)) → end_of (map (moved_to shift) (c ∷ take k cs)) ≡ shift (end_of (c ∷ take k cs))
            → not (end_of (map (moved_to shift) (c ∷ take k cs)) == shift c.at + length (map (moved_to shift) (c ∷ take k cs))) ≡ not (end_of (c ∷ take k cs) == c.at + length (c ∷ take k cs))
            → token b kind (moved_to shift c) (map (moved_to shift) (c ∷ take k cs)) ≡ ren (token b kind c (c ∷ take k cs))
        ap₅ e f g =
            ap (λ x. made kind x (end_of (map (moved_to shift) (c ∷ take k cs))) (not (end_of (map (moved_to shift) (c ∷ take k cs)) == shift c.at + length (map (moved_to shift) (c ∷ take k cs))))) e
            ∙ ap (λ x. made kind (if is_among os c.at then new else text_of (c ∷ take k cs)) x (not (end_of (map (moved_to shift) (c ∷ take k cs)) == shift c.at + length (map (moved_to shift) (c ∷ take k cs))))) f
            ∙ ap (made kind (if is_among os c.at then new else text_of (c ∷ take k cs)) (shift (end_of (c ∷ take k cs)))) g

    -- a token, or a fault in its place
    abbrev chosen : Bool → Option ℕ → Token → Lexed → Lexed
    chosen opened found t rest = cond opened (stop (lexing.OpenComment c.at)) (unless_trigraph (with_token t rest) found)

    abbrev chosen_after : Bool → Option ℕ → Token → Lexed → Lexed
    chosen_after opened found t rest = cond opened (stop (lexing.OpenComment (shift c.at))) (unless_trigraph (with_token t rest) found)

    kept_piece : (kind : PpKind) → Out c.at → longest_part (text_of (c ∷ cs)) ≡ (suc k, Piece kind)
        → place c.at ≡ false → NoPlace (c.at + 1) (behind k (c.at + 1) cs)
        → (opened : Bool) (found : Option ℕ) → begins (codes "/*") (text_of (c ∷ cs)) ≡ opened → first_trigraph (c ∷ take k cs) ≡ found
        → (opened ≡ false → found ≡ None → Placed (behind k (c.at + 1) cs) (cut (record { first = false; space = false }) zero (drop k cs)).tokens)
        → cut b zero (E (c ∷ cs)) ≡ renl (chosen opened found (token b kind c (c ∷ take k cs)) (cut (record { first = false; space = false }) (suc k - 1) cs))
    kept_piece kind out e stay none opened found eo ef placed =
        ap (cut b zero) (not_place c cs stay)
        ∙ cut_one b (moved_to shift c) (E cs)
        ∙ ap (by_part b (moved_to shift c) (E cs) (λ after n. cut after n (E cs))) (kept_longest (Piece kind) none e)
        ∙ ap (λ o. chosen_after (begins (codes "/*") (text_of (moved_to shift c ∷ E cs))) (first_trigraph o) (token b kind (moved_to shift c) o) (cut in_line (suc k - 1) (E cs))) (own_is none)
        ∙ ap (λ x. chosen_after x (first_trigraph (map (moved_to shift) (c ∷ take k cs))) (token b kind (moved_to shift c) (map (moved_to shift) (c ∷ take k cs))) (cut in_line (suc k - 1) (E cs))) (kept_open none ∙ eo)
        ∙ ap (λ x. chosen_after opened x (token b kind (moved_to shift c) (map (moved_to shift) (c ∷ take k cs))) (cut in_line (suc k - 1) (E cs))) (trigraph_moved shift (c ∷ take k cs) ∙ ap (option_map shift) ef)
        ∙ by opened found placed
      where
        by : (opened : Bool) (found : Option ℕ) → (opened ≡ false → found ≡ None → Placed (behind k (c.at + 1) cs) (cut (record { first = false; space = false }) zero (drop k cs)).tokens)
            → chosen_after opened (option_map shift found) (token b kind (moved_to shift c) (map (moved_to shift) (c ∷ take k cs))) (cut in_line (suc k - 1) (E cs))
            ≡ renl (chosen opened found (token b kind c (c ∷ take k cs)) (cut in_line (suc k - 1) cs))
        by true found placed = refl
        by false (Some at) placed = refl
        by false None placed =
            ap (λ t. with_token t (cut in_line (suc k - 1) (E cs))) (kept_token kind out stay none)
            ∙ ap (with_token (ren (token b kind c (c ∷ take k cs)))) (E_cut in_line (out_end out stay none) none (placed refl refl))

    -- the new name in the place of a token
    renamed_piece : (kind : PpKind) → longest_part (text_of (c ∷ cs)) ≡ (suc k, Piece kind) → place c.at ≡ true → IsGood (token b kind c (c ∷ take k cs))
        → Placed (behind k (c.at + 1) cs) (cut in_line zero (drop k cs)).tokens
        → cut b zero (E (c ∷ cs)) ≡ renl (with_token (token b kind c (c ∷ take k cs)) (cut in_line (suc k - 1) cs))
    renamed_piece kind e hit good placed = by new refl fresh
      where
        at_end : end_of (c ∷ take k cs) ≡ behind k (c.at + 1) cs
        at_end = ends_behind k c cs

        spelled : c.byte ∷ text_of (take k cs) ≡ old
        spelled = good.text

        size : length old ≡ suc k
        size = ap length (sym good.text) ∙ ap suc long

        stands : end_of (c ∷ take k cs) ≡ c.at + length old
        stands =
            let t : (end_of (c ∷ take k cs) == c.at + length (c ∷ take k cs)) ≡ true = not_not (end_of (c ∷ take k cs) == c.at + length (c ∷ take k cs)) good.joined in
            eqb-true (end_of (c ∷ take k cs)) (c.at + length (c ∷ take k cs)) t ∙ ap (λ n. c.at + n) (ap suc (length-take-le k cs fits) ∙ sym size)
          where
            not_not : (t : Bool) → not t ≡ false → t ≡ true
            not_not true h = refl
            not_not false h = cc

        word : (starts_name c.byte ≡ true) × (list_all is_word_byte (text_of (take k cs)) ≡ true)
        word = and_parts (starts_name c.byte) (list_all is_word_byte (text_of (take k cs))) (ap is_identifier spelled ∙ name)

        E_is : E (c ∷ cs) ≡ name_cells (shift c.at) c.line new ++ E (drop k cs)
        E_is = at_place c cs hit ∙ ap (λ n. name_cells (shift c.at) c.line new ++ E (drop n cs)) (let z : length old - 1 ≡ k = omega (arith, size) in z)

        no_word : (d : Cell) (ds : List Cell) → drop k cs ≡ d ∷ ds → is_word_byte d.byte ≡ false
        no_word d ds f = must_be_false (is_word_byte d.byte) (λ w. on w (longest_gives (length (text_of (c ∷ cs))) (text_of (c ∷ cs)) (suc k) (Piece kind) e))
          where
            all : text_of cs ≡ text_of (take k cs) ++ (d.byte ∷ text_of ds)
            all = ap text_of (sym (take-append-drop k cs)) ∙ map-append (λ (x : Cell). x.byte) (take k cs) (drop k cs) ∙ ap (λ l. text_of (take k cs) ++ text_of l) f

            more : take (suc (suc k)) (text_of (c ∷ cs)) ≡ c.byte ∷ (text_of (take k cs) ++ d.byte ∷ [])
            more = ap (λ l. c.byte ∷ l) (ap (take (suc k)) all ∙ ap (λ n. take n (text_of (take k cs) ++ (d.byte ∷ text_of ds))) (let z : suc k ≡ length (text_of (take k cs)) + 1 = omega (arith, long) in z) ∙ take_over (text_of (take k cs)) (d.byte ∷ text_of ds) 1)

            ident : is_word_byte d.byte ≡ true → part_of (take (suc (suc k)) (text_of (c ∷ cs))) ≡ Some (Piece Ident)
            ident w =
                ap part_of more ∙ word_by c.byte (text_of (take k cs) ++ d.byte ∷ []) word.0
                ∙ ap (λ t. if t then Some (Piece Ident) else if word_char c.byte (text_of (take k cs) ++ d.byte ∷ []) then Some (Piece Char) else if word_string c.byte (text_of (take k cs) ++ d.byte ∷ []) then Some (Piece Str) else None)
                (list_all-append is_word_byte (text_of (take k cs)) (d.byte ∷ []) ∙ ap (λ t. t && (is_word_byte d.byte && true)) word.1 ∙ ap (λ t. t && true) w)

            on : is_word_byte d.byte ≡ true → Hit (length (text_of (c ∷ cs))) (text_of (c ∷ cs)) (suc k) (Piece kind) ⊎ Missed (length (text_of (c ∷ cs))) (text_of (c ∷ cs)) (suc k) (Piece kind) → ⊥
            on w (inl (x, y, z, none)) =
                let i : suc (suc k) ≤ length (text_of (c ∷ cs)) = omega (arith, ap length all, length-append (text_of (take k cs)) (d.byte ∷ text_of ds), long) in
                let bad : Some (Piece Ident) ≡ None = sym (ident w) ∙ none (suc (suc k)) (omega arith) i in cc
            on w (inr (x, stray, none)) = let bad : Piece Ident ≡ Piece Stray = ap Piece (sym good.kind) ∙ stray in cc

        ends : (ds : List Cell) → drop k cs ≡ ds → Ends new (text_of (E ds))
        ends [] f = tt
        ends (d ∷ ds) f =
            let w = no_word d ds f in
            let q : could_prefix new d.byte ≡ false = ap (is_before_quote new) (sym f ∙ sym end_is ∙ ap (rest bytes) (sym at_end)) ∙ good.quote in
            subst (λ l. Ends new (text_of l)) (sym (not_place d ds (stay d ds f w))) (w, q)
          where
            stay : (d : Cell) (ds : List Cell) → drop k cs ≡ d ∷ ds → is_word_byte d.byte ≡ false → is_among os d.at ≡ false
            stay d ds f w = must_be_false (is_among os d.at) (λ h.
                let n = rest_next (length bytes - behind k (c.at + 1) cs) bytes (behind k (c.at + 1) cs) d ds (omega arith) (end_is ∙ f) in
                let t : d.byte ∷ text_of ds ≡ old ++ text_of (rest bytes (d.at + length old)) = ap text_of (sym n.2) ∙ (place_rest d.at h).1 in
                let l : is_word_byte d.byte ≡ true = head_word old name d.byte (text_of ds) (text_of (rest bytes (d.at + length old))) t in
                let bad : true ≡ false = sym l ∙ w in cc)

        by : (xs : List ℕ) → new ≡ xs → is_identifier xs ≡ true → cut b zero (E (c ∷ cs)) ≡ renl (with_token (token b kind c (c ∷ take k cs)) (cut in_line (suc k - 1) cs))
        by [] q f = cc
        by (w ∷ ws) q f =
            ap (cut b zero) (E_is ∙ ap (λ l. name_cells (shift c.at) c.line l ++ E (drop k cs)) q)
            ∙ name_cut b w ws (shift c.at) c.line (E (drop k cs)) f (subst (λ l. Ends l (text_of (E (drop k cs)))) q (ends (drop k cs) refl))
            ∙ ap (λ t. with_token t (cut in_line zero (E (drop k cs)))) same
            ∙ ap (with_token (ren (token b kind c (c ∷ take k cs)))) (ih in_line (subst Out (sym stands ∙ at_end) (out_place (length old) (length new) os 0 (length bytes) c.at rise hit).1) placed ∙ ap renl (sym (cut_after in_line)))
          where
            place_end : shift (end_of (c ∷ take k cs)) ≡ shift c.at + length (w ∷ ws)
            place_end = ap shift stands ∙ shifted-place (length old) (length new) os 0 (length bytes) c.at some rise hit ∙ ap (λ l. shift c.at + length l) q

            same : token b Ident (record { byte = w; at = shift c.at; line = c.line; trigraph = false }) (name_cells (shift c.at) c.line (w ∷ ws)) ≡ ren (token b kind c (c ∷ take k cs))
            same =
                ap (λ x. made x (text_of (name_cells (shift c.at) c.line (w ∷ ws))) (end_of (name_cells (shift c.at) c.line (w ∷ ws))) (not (end_of (name_cells (shift c.at) c.line (w ∷ ws)) == shift c.at + length (name_cells (shift c.at) c.line (w ∷ ws))))) (sym good.kind)
                ∙ ap (λ x. made kind x (end_of (name_cells (shift c.at) c.line (w ∷ ws))) (not (end_of (name_cells (shift c.at) c.line (w ∷ ws)) == shift c.at + length (name_cells (shift c.at) c.line (w ∷ ws)))))
                (name_text (shift c.at) c.line (w ∷ ws) ∙ sym q ∙ sym (ap (λ t. if t then new else text_of (c ∷ take k cs)) hit))
                ∙ ap (λ x. made kind (if is_among os c.at then new else text_of (c ∷ take k cs)) x (not (end_of (name_cells (shift c.at) c.line (w ∷ ws)) == shift c.at + length (name_cells (shift c.at) c.line (w ∷ ws)))))
                (name_end (shift c.at) c.line w ws ∙ sym place_end)
                ∙ ap (made kind (if is_among os c.at then new else text_of (c ∷ take k cs)) (shift (end_of (c ∷ take k cs))))
                (ap not (eq-eqb (end_of (name_cells (shift c.at) c.line (w ∷ ws))) (shift c.at + length (name_cells (shift c.at) c.line (w ∷ ws))) (name_end (shift c.at) c.line w ws ∙ ap (λ n. shift c.at + n) (sym (name_length (shift c.at) c.line (w ∷ ws))))) ∙ sym good.joined)

    kept_part : (part : Part) → Out c.at → longest_part (text_of (c ∷ cs)) ≡ (suc k, part)
        → Placed from (by_part b c cs (λ after n. cut after n cs) (suc k, part)).tokens
        → cut b zero (E (c ∷ cs)) ≡ renl (by_part b c cs (λ after n. cut after n cs) (suc k, part))
    kept_part spellings.Blank out e placed = kept_space (record b { space = true }) spellings.Blank out (λ l d. refl) e placed
    kept_part spellings.Comment out e placed = kept_space (record b { space = true }) spellings.Comment out (λ l d. refl) e placed
    kept_part spellings.LineEnd out e placed = kept_space (record { first = true; space = true }) spellings.LineEnd out (λ l d. refl) e placed
    kept_part (Piece kind) out e placed = by (begins (codes "/*") (text_of (c ∷ cs))) (first_trigraph (c ∷ take k cs)) refl refl placed
      where
        by : (opened : Bool) (found : Option ℕ) → begins (codes "/*") (text_of (c ∷ cs)) ≡ opened → first_trigraph (c ∷ take k cs) ≡ found
            → Placed from (chosen opened found (token b kind c (c ∷ take k cs)) (cut in_line (suc k - 1) cs)).tokens
            → cut b zero (E (c ∷ cs)) ≡ renl (chosen opened found (token b kind c (c ∷ take k cs)) (cut in_line (suc k - 1) cs))
        by true found eo ef placed =
            let none = none_left placed (behind k (c.at + 1) cs) in
            kept_piece kind out e (none c.at rises.0 (omega (arith, far))) (λ p a l. none p (omega (arith, rises.0)) l) true found eo ef (λ f. cc)
        by false (Some at) eo ef placed =
            let none = none_left placed (behind k (c.at + 1) cs) in
            kept_piece kind out e (none c.at rises.0 (omega (arith, far))) (λ p a l. none p (omega (arith, rises.0)) l) false (Some at) eo ef (λ f g. cc)
        by false None eo ef placed = on (is_among os c.at) refl
          where
            t0 : Token
            t0 = token b kind c (c ∷ take k cs)

            at_end : Placed from (token b kind c (c ∷ take k cs) ∷ (cut in_line zero (drop k cs)).tokens)
            at_end = subst (λ l. Placed from (token b kind c (c ∷ take k cs) ∷ l.tokens)) (cut_after in_line) placed

            behind_it : Placed (behind k (c.at + 1) cs) (cut in_line zero (drop k cs)).tokens
            behind_it = placed_rest in_line (token b kind c (c ∷ take k cs)) refl at_end

            on : (x : Bool) → is_among os c.at ≡ x → cut b zero (E (c ∷ cs)) ≡ renl (with_token (token b kind c (c ∷ take k cs)) (cut in_line (suc k - 1) cs))
            on false h = kept_piece kind out e h (none_inside in_line (token b kind c (c ∷ take k cs)) refl at_end) false None eo ef (λ f g. behind_it)
            on true h = renamed_piece kind e h (this (at_end c.at rises.0 h)) behind_it
              where
                this : ((u : Token) × In u (token b kind c (c ∷ take k cs) ∷ (cut in_line zero (drop k cs)).tokens) × (u.at ≡ c.at) × IsGood u) → IsGood (token b kind c (c ∷ take k cs))
                this (u, inl same, at, good) = subst IsGood (sym same) good
                this (u, inr i, at, good) = let g = later in_line u i in absurd (omega (arith, far))

  ends_at : (from : ℕ) (c : Cell) (cs : List Cell) (k : ℕ) → rest bytes from ≡ c ∷ cs → rest bytes (behind k (c.at + 1) cs) ≡ drop k cs
  ends_at from c cs k e =
      let next = rest_next (length bytes - from) bytes from c cs (omega arith) e in
      ap (λ l. rest bytes (behind k (c.at + 1) l)) next.0 ∙ rest_behind bytes k (c.at + 1) ∙ ap (drop k) (sym next.0)

  pub kept : (n from : ℕ) (b : Before) → length bytes - from ≤ n → Out from → Placed from (cut b zero (rest bytes from)).tokens → cut b zero (E (rest bytes from)) ≡ renl (cut b zero (rest bytes from))
  kept zero from b size out placed =
      let e = rest_end bytes from (omega arith) in
      ap (λ cs. cut b zero (E cs)) e ∙ cut_none b ∙ ap renl (sym (ap (cut b zero) e ∙ cut_none b))
  kept (suc n) from b size out placed = by (rest bytes from) refl (λ q b2 h o pl. kept n q b2 h o pl)
    where
      by : (cs : List Cell) → rest bytes from ≡ cs
          → ((q : ℕ) (b2 : Before) → length bytes - q ≤ n → Out q → Placed q (cut b2 zero (rest bytes q)).tokens → cut b2 zero (E (rest bytes q)) ≡ renl (cut b2 zero (rest bytes q)))
          → cut b zero (E (rest bytes from)) ≡ renl (cut b zero (rest bytes from))
      by [] e ih = ap (λ cs. cut b zero (E cs)) e ∙ cut_none b ∙ ap renl (sym (ap (cut b zero) e ∙ cut_none b))
      by (c ∷ cs) e ih = on (longest_part (text_of (c ∷ cs))) refl
        where
          rises : Rising from (c ∷ cs)
          rises = subst (Rising from) e (rest_rises bytes from)

          here : Placed from (cut b zero (c ∷ cs)).tokens
          here = subst (λ l. Placed from (cut b zero l).tokens) e placed

          clear : Out c.at
          clear = subst Out (let z : from + (c.at - from) ≡ c.at = omega (arith, rises.0) in z)
              (shift_run (c.at - from) from out (λ p a l. must_be_false (is_among os p) (λ h.
              let w = here p a h in
              let g = tokens_behind b zero c.at (c ∷ cs) w.0 (omega arith, rises.1) w.1 in
              let at = w.2 in absurd (omega (arith, rises.0))))).1

          on : (p : ℕ × Part) → longest_part (text_of (c ∷ cs)) ≡ p → cut b zero (E (rest bytes from)) ≡ renl (cut b zero (rest bytes from))
          on (m, part) f = size_is m f (longest_gives (length (text_of (c ∷ cs))) (text_of (c ∷ cs)) m part f)
            where
              size_is : (m : ℕ) → longest_part (text_of (c ∷ cs)) ≡ (m, part) → Hit (length (text_of (c ∷ cs))) (text_of (c ∷ cs)) m part ⊎ Missed (length (text_of (c ∷ cs))) (text_of (c ∷ cs)) m part → cut b zero (E (rest bytes from)) ≡ renl (cut b zero (rest bytes from))
              size_is zero f (inl (x, y, z, w)) = absurd (omega arith)
              size_is zero f (inr (x, y, z)) = absurd (omega arith)
              size_is (suc k) f h =
                  let fits : k ≤ length cs = small h in
                  let same : cut b zero (c ∷ cs) ≡ by_part b c cs (λ after n. cut after n cs) (suc k, part) = cut_one b c cs ∙ ap (by_part b c cs (λ after n. cut after n cs)) f in
                  ap (λ l. cut b zero (E l)) e
                  ∙ kept_part from b c cs k e fits (λ b2 o pl. deeper b2 o pl) part clear f (subst (λ l. Placed from l.tokens) same here)
                  ∙ ap renl (sym (ap (cut b zero) e ∙ same))
                where
                  small : Hit (length (text_of (c ∷ cs))) (text_of (c ∷ cs)) (suc k) part ⊎ Missed (length (text_of (c ∷ cs))) (text_of (c ∷ cs)) (suc k) part → k ≤ length cs
                  small (inl (x, y, z, w)) = omega (arith, length-map cs (λ (x : Cell). x.byte))
                  small (inr (x, y, z)) = omega arith

                  deeper : (b2 : Before) → Out (behind k (c.at + 1) cs) → Placed (behind k (c.at + 1) cs) (cut b2 zero (drop k cs)).tokens → cut b2 zero (E (drop k cs)) ≡ renl (cut b2 zero (drop k cs))
                  deeper b2 o pl =
                      let d = ends_at from c cs k e in
                      let next = rest_next (length bytes - from) bytes from c cs (omega arith) e in
                      let g = Rising-behind k (c.at + 1) cs rises.1 in
                      ap (λ l. cut b2 zero (E l)) (sym d)
                      ∙ ih (behind k (c.at + 1) cs) b2 (omega (arith, rises.0, next.1)) o (subst (λ l. Placed (behind k (c.at + 1) cs) (cut b2 zero l).tokens) (sym d) pl)
                      ∙ ap (λ l. renl (cut b2 zero l)) d
