-- The part that the code finds by the first byte is the longest one.
use Rattle.std.proofs.Common.{◌≡◌, ℕ, zero, suc, ◌+◌, ◌⊎◌, inl, inr, Bool, true, false, ◌&&◌, ◌||◌, cond, List, [], ◌∷◌, Option, Some, None, refl, ap, sym, ◌∙◌, subst, arith, codes}
use Rattle.std.specs.Prelude.{◌==◌, if◌then◌else◌}
use Rattle.std.specs.Option.{option_map, unwrap_or}
use Rattle.std.proofs.lemmas.Bool.{eqb-true}
use Rattle.std.proofs.lemmas.Bool.Decides.{nat_tests}
use Rattle.cr_base.specs.Names.{is_digit, is_word_byte, starts_name}
use Rattle.cr_base.specs.declared.token.PpKind.{PpKind}
use Rattle.cr_base.specs.declared.token.PpKind.TheVariants.{Ident, Number, Char, Str, Punct, Stray}
use Rattle.cr_lex.specs.Spellings as spellings
use Rattle.cr_lex.specs.Spellings.{is_blank_byte, starts_with, is_one_of}
use Rattle.cr_lex.specs.Joins.{Cell, text_of, begins}
use Rattle.cr_lex.specs.Lexing.{longest_part}
use Rattle.cr_lex.specs.Scanning.{behind, run, number_run, closing, closed, block, block_end, ok, part, starts_at, char_end, char_part, string_part, u8_part, is_quote, is_wide, word_part, quote_part, pair_end, triple_end, quad_end, or_else, single_found, punct_part, dot_part, block_part, slash_part, part_behind, number_end, run_end, is_not_line_feed}
use Rattle.cr_lex.specs.declared.part.Found.TheVariants as found
use Rattle.cr_lex.specs.declared.part.Part.{Part}
use Rattle.cr_lex.proofs.Fronts.{run_cells, number_cells, closed_cells, block_cells}
use Rattle.cr_lex.proofs.Longest.{is_single}
use Rattle.cr_lex.proofs.Classes.{ArePuncts, longest_blank, longest_end, longest_number, longest_dot_number, longest_punct, punct_or_stray, quad_at, triple_at, pair_at, other_puncts, dot_puncts, longest_block, longest_open, longest_line, slash_puncts, char_closing, longest_single, longest_double}
use Rattle.cr_lex.proofs.Words.{HasNoLiteral, longest_word, longest_wide_char, no_wide_char, longest_wide_string, no_wide_string, longest_u8, no_u8, no_prefix, no_quote}
use Rattle.cr_lex.proofs.First.{IsFirst}

not_open : (a : ℕ) (bs : List ℕ) → (47 == a) ≡ false → begins (codes "/*") (a ∷ bs) ≡ false
not_open a bs h = ap (λ t. t && begins (codes "*") bs) h

-- a token of k bytes more than the first
token_first : (a from k end : ℕ) (cs : List Cell) (kind : PpKind) → end ≡ behind k from cs → longest_part (a ∷ text_of cs) ≡ (suc k, spellings.Piece kind) → begins (codes "/*") (a ∷ text_of cs) ≡ false → IsFirst a from cs (part (found.Piece kind) end)
token_first a from k end cs kind e l o = (k, e, (l, o))

space_first : (a from k end : ℕ) (cs : List Cell) → end ≡ behind k from cs → (longest_part (a ∷ text_of cs) ≡ (suc k, spellings.Blank)) ⊎ (longest_part (a ∷ text_of cs) ≡ (suc k, spellings.Comment)) → IsFirst a from cs (part found.Space end)
space_first a from k end cs e l = (k, e, l)

-- punctuators

quad_cells : (a from : ℕ) (cs : List Cell) → quad_end a cs ≡ (if quad_at a (text_of cs) then Some (behind 3 from cs) else None)
quad_cells a from [] = refl
quad_cells a from (c ∷ []) = refl
quad_cells a from (c ∷ d ∷ []) = refl
quad_cells a from (c ∷ d ∷ e ∷ cs) = refl

triple_cells : (a from : ℕ) (cs : List Cell) → triple_end a cs ≡ (if triple_at a (text_of cs) then Some (behind 2 from cs) else None)
triple_cells a from [] = refl
triple_cells a from (c ∷ []) = refl
triple_cells a from (c ∷ d ∷ cs) = refl

pair_cells : (a from : ℕ) (cs : List Cell) → pair_end a cs ≡ (if pair_at a (text_of cs) then Some (behind 1 from cs) else None)
pair_cells a from [] = refl
pair_cells a from (c ∷ cs) = refl

punct_first : (a from : ℕ) (cs : List Cell) → ArePuncts a (text_of cs) → begins (codes "/*") (a ∷ text_of cs) ≡ false → IsFirst a from cs (punct_part a from cs)
unfolding is_single
punct_first a from cs h o =
    subst (IsFirst a from cs) (sym same) (by (quad_at a (text_of cs)) (triple_at a (text_of cs)) (pair_at a (text_of cs)) (is_single a) (longest_punct a (text_of cs) h))
  where
    gives : Option ℕ → Bool → Part
    gives o s = unwrap_or (option_map (part (found.Piece Punct)) o) (part (cond s (found.Piece Punct) (found.Piece Stray)) from)

    chosen : Bool → Bool → Bool → Bool → Part
    chosen q t p s =
        unwrap_or (option_map (part (found.Piece Punct)) (or_else (if q then Some (behind 3 from cs) else None) (or_else (if t then Some (behind 2 from cs) else None) (if p then Some (behind 1 from cs) else None))))
        (part (if s then found.Piece Punct else found.Piece Stray) from)

    same : punct_part a from cs ≡ unwrap_or (option_map (part (found.Piece Punct)) (or_else (if quad_at a (text_of cs) then Some (behind 3 from cs) else None) (or_else (if triple_at a (text_of cs) then Some (behind 2 from cs) else None) (if pair_at a (text_of cs) then Some (behind 1 from cs) else None)))) (part (single_found a) from)
    same =
        ap (λ x. unwrap_or (option_map (part (found.Piece Punct)) (or_else x (or_else (triple_end a cs) (pair_end a cs)))) (part (single_found a) from)) (quad_cells a from cs)
        ∙ ap (λ x. unwrap_or (option_map (part (found.Piece Punct)) (or_else (if quad_at a (text_of cs) then Some (behind 3 from cs) else None) (or_else x (pair_end a cs)))) (part (single_found a) from)) (triple_cells a from cs)
        ∙ ap (λ x. unwrap_or (option_map (part (found.Piece Punct)) (or_else (if quad_at a (text_of cs) then Some (behind 3 from cs) else None) (or_else (if triple_at a (text_of cs) then Some (behind 2 from cs) else None) x))) (part (single_found a) from)) (pair_cells a from cs)

    by : (q t p s : Bool) → longest_part (a ∷ text_of cs) ≡ punct_or_stray q t p s
        → IsFirst a from cs (unwrap_or (option_map (part (found.Piece Punct)) (or_else (if q then Some (behind 3 from cs) else None) (or_else (if t then Some (behind 2 from cs) else None) (if p then Some (behind 1 from cs) else None)))) (part (if s then found.Piece Punct else found.Piece Stray) from))
    by true t p s l = token_first a from 3 _ cs Punct refl l o
    by false true p s l = token_first a from 2 _ cs Punct refl l o
    by false false true s l = token_first a from 1 _ cs Punct refl l o
    by false false false true l = token_first a from 0 _ cs Punct refl l o
    by false false false false l = token_first a from 0 _ cs Stray refl l o

-- `.` and `/`

dot_first : (from : ℕ) (cs : List Cell) → IsFirst 46 from cs (dot_part from cs)
dot_first from [] = punct_first 46 from [] (dot_puncts [] refl) refl
dot_first from (c ∷ cs) = by (is_digit c.byte) refl
  where
    by : (t : Bool) → is_digit c.byte ≡ t → IsFirst 46 from (c ∷ cs) (if t then part (found.Piece Number) (number_end c.byte (c.at + 1) cs) else punct_part 46 from (c ∷ cs))
    by true e = token_first 46 from (suc (number_run c.byte (text_of cs))) _ (c ∷ cs) Number (number_cells c.byte (c.at + 1) cs) (longest_dot_number c.byte (text_of cs) e) refl
    by false e = punct_first 46 from (c ∷ cs) (dot_puncts (text_of (c ∷ cs)) e) refl

block_first : (from : ℕ) (c : Cell) (cs : List Cell) → c.byte ≡ 42 → IsFirst 47 from (c ∷ cs) (block_part (c.at + 1) (block_end false cs))
block_first from c cs star = subst (λ o. IsFirst 47 from (c ∷ cs) (block_part (c.at + 1) o)) (sym (block_cells false (c.at + 1) cs)) (by (block false (text_of cs)) refl)
  where
    by : (o : Option ℕ) → block false (text_of cs) ≡ o → IsFirst 47 from (c ∷ cs) (block_part (c.at + 1) (option_map (λ n. behind n (c.at + 1) cs) o))
    by None e = (1, refl, (ap (λ b. longest_part (47 ∷ b ∷ text_of cs)) star ∙ longest_open (text_of cs) e, ap (λ b. begins (codes "/*") (47 ∷ b ∷ text_of cs)) star))
    by (Some n) e = space_first 47 from (suc n) _ (c ∷ cs) refl (inr (ap (λ b. longest_part (47 ∷ b ∷ text_of cs)) star ∙ longest_block (text_of cs) n e))

slash_first : (from : ℕ) (cs : List Cell) → IsFirst 47 from cs (slash_part from cs)
slash_first from [] = punct_first 47 from [] (slash_puncts [] refl refl) refl
slash_first from (c ∷ cs) = by (c.byte == 42) (c.byte == 47) refl refl
  where
    by : (t u : Bool) → (c.byte == 42) ≡ t → (c.byte == 47) ≡ u
        → IsFirst 47 from (c ∷ cs) (if t then block_part (c.at + 1) (block_end false cs) else if u then part found.Space (run_end is_not_line_feed (c.at + 1) cs) else punct_part 47 from (c ∷ cs))
    by true u e f = block_first from c cs (eqb-true c.byte 42 e)
    by false true e f = space_first 47 from (suc (run is_not_line_feed (text_of cs))) _ (c ∷ cs) (run_cells is_not_line_feed (c.at + 1) cs) (inr (ap (λ b. longest_part (47 ∷ b ∷ text_of cs)) (eqb-true c.byte 47 f) ∙ longest_line (text_of cs)))
    by false false e f = punct_first 47 from (c ∷ cs) (slash_puncts (text_of (c ∷ cs)) e f) (ap (λ t. t && begins [] (text_of cs)) (other c.byte e))
      where
        other : (b : ℕ) → (b == 42) ≡ false → (42 == b) ≡ false
        other b h = grind (arith, nat_tests)

-- literals

starts_cells : (q : ℕ) (cs : List Cell) → starts_at q cs ≡ starts_with q (text_of cs)
starts_cells q [] = refl
starts_cells q (c ∷ cs) = refl

char_cells : (from : ℕ) (cs : List Cell) → char_end from cs ≡ option_map (λ n. behind n from cs) (char_closing (text_of cs))
char_cells from cs = ap (λ t. if t then None else ok (closed 39 false from cs)) (starts_cells 39 cs) ∙ by (starts_with 39 (text_of cs)) (closed_cells 39 false from cs)
  where
    by : (t : Bool) → ok (closed 39 false from cs) ≡ option_map (λ n. behind n from cs) (closing 39 false (text_of cs)) → cond t None (ok (closed 39 false from cs)) ≡ option_map (λ n. behind n from cs) (cond t None (closing 39 false (text_of cs)))
    by true h = refl
    by false h = h

single_first : (from : ℕ) (cs : List Cell) → IsFirst 39 from cs (quote_part 39 from cs)
single_first from cs = subst (λ o. IsFirst 39 from cs (unwrap_or (option_map (part (found.Piece Char)) o) (part (found.Piece Stray) from))) (sym (char_cells from cs)) (by (char_closing (text_of cs)) refl)
  where
    by : (o : Option ℕ) → char_closing (text_of cs) ≡ o → IsFirst 39 from cs (unwrap_or (option_map (part (found.Piece Char)) (option_map (λ n. behind n from cs) o)) (part (found.Piece Stray) from))
    by None e = token_first 39 from 0 _ cs Stray refl ((longest_single (text_of cs)).1 e) refl
    by (Some n) e = token_first 39 from n _ cs Char refl ((longest_single (text_of cs)).0 n e) refl

double_first : (from : ℕ) (cs : List Cell) → IsFirst 34 from cs (quote_part 34 from cs)
double_first from cs = subst (λ o. IsFirst 34 from cs (unwrap_or (option_map (part (found.Piece Str)) o) (part (found.Piece Stray) from))) (sym (closed_cells 34 false from cs)) (by (closing 34 false (text_of cs)) refl)
  where
    by : (o : Option ℕ) → closing 34 false (text_of cs) ≡ o → IsFirst 34 from cs (unwrap_or (option_map (part (found.Piece Str)) (option_map (λ n. behind n from cs) o)) (part (found.Piece Stray) from))
    by None e = token_first 34 from 0 _ cs Stray refl ((longest_double (text_of cs)).1 e) refl
    by (Some n) e = token_first 34 from n _ cs Str refl ((longest_double (text_of cs)).0 n e) refl

-- words

module _ (a from : ℕ) (h : starts_name a ≡ true) where
  slash : (bs : List ℕ) → begins (codes "/*") (a ∷ bs) ≡ false
  slash bs = not_open a bs (other a h)
    where
      other : (a : ℕ) → starts_name a ≡ true → (47 == a) ≡ false
      other a h = grind (arith, nat_tests)

  ident_first : (cs : List Cell) → HasNoLiteral a (text_of cs) → IsFirst a from cs (part (found.Piece Ident) (run_end is_word_byte from cs))
  ident_first cs none = token_first a from (run is_word_byte (text_of cs)) _ cs Ident (run_cells is_word_byte from cs) (longest_word a (text_of cs) h none) (slash (text_of cs))

  abbrev or_ident : List Cell → Option Part → Part
  or_ident cs o = unwrap_or o (part (found.Piece Ident) (run_end is_word_byte from cs))

  wide_char_first : (c : Cell) (cs : List Cell) → is_wide a ≡ true → c.byte ≡ 39 → IsFirst a from (c ∷ cs) (or_ident (c ∷ cs) (char_part (c.at + 1) cs))
  wide_char_first c cs w q = subst (λ o. IsFirst a from (c ∷ cs) (or_ident (c ∷ cs) (option_map (part (found.Piece Char)) o))) (sym (char_cells (c.at + 1) cs)) (by (char_closing (text_of cs)) refl)
    where
      by : (o : Option ℕ) → char_closing (text_of cs) ≡ o → IsFirst a from (c ∷ cs) (or_ident (c ∷ cs) (option_map (part (found.Piece Char)) (option_map (λ n. behind n (c.at + 1) cs) o)))
      by None e = ident_first (c ∷ cs) (subst (λ b. HasNoLiteral a (b ∷ text_of cs)) (sym q) (no_wide_char a (text_of cs) e))
      by (Some n) e = token_first a from (suc n) _ (c ∷ cs) Char refl (ap (λ b. longest_part (a ∷ b ∷ text_of cs)) q ∙ longest_wide_char a n (text_of cs) h w e) (slash (text_of (c ∷ cs)))

  wide_string_first : (c : Cell) (cs : List Cell) → is_wide a ≡ true → c.byte ≡ 34 → IsFirst a from (c ∷ cs) (or_ident (c ∷ cs) (string_part (c.at + 1) cs))
  wide_string_first c cs w q = subst (λ o. IsFirst a from (c ∷ cs) (or_ident (c ∷ cs) (option_map (part (found.Piece Str)) o))) (sym (closed_cells 34 false (c.at + 1) cs)) (by (closing 34 false (text_of cs)) refl)
    where
      by : (o : Option ℕ) → closing 34 false (text_of cs) ≡ o → IsFirst a from (c ∷ cs) (or_ident (c ∷ cs) (option_map (part (found.Piece Str)) (option_map (λ n. behind n (c.at + 1) cs) o)))
      by None e = ident_first (c ∷ cs) (subst (λ b. HasNoLiteral a (b ∷ text_of cs)) (sym q) (no_wide_string a (text_of cs) e))
      by (Some n) e = token_first a from (suc n) _ (c ∷ cs) Str refl (ap (λ b. longest_part (a ∷ b ∷ text_of cs)) q ∙ longest_wide_string a n (text_of cs) h w e) (slash (text_of (c ∷ cs)))

  u8_first : (c d : Cell) (cs : List Cell) → a ≡ 117 → c.byte ≡ 56 → d.byte ≡ 34 → IsFirst a from (c ∷ d ∷ cs) (or_ident (c ∷ d ∷ cs) (string_part (d.at + 1) cs))
  u8_first c d cs u eight q = subst (λ o. IsFirst a from (c ∷ d ∷ cs) (or_ident (c ∷ d ∷ cs) (option_map (part (found.Piece Str)) o))) (sym (closed_cells 34 false (d.at + 1) cs)) (by (closing 34 false (text_of cs)) refl)
    where
      spelled : a ∷ c.byte ∷ d.byte ∷ text_of cs ≡ 117 ∷ 56 ∷ 34 ∷ text_of cs
      spelled = cc

      by : (o : Option ℕ) → closing 34 false (text_of cs) ≡ o → IsFirst a from (c ∷ d ∷ cs) (or_ident (c ∷ d ∷ cs) (option_map (part (found.Piece Str)) (option_map (λ n. behind n (d.at + 1) cs) o)))
      by None e = ident_first (c ∷ d ∷ cs) (subst (λ x. HasNoLiteral x (text_of (c ∷ d ∷ cs))) (sym u) (subst (λ bs. HasNoLiteral 117 bs) (sym same) (no_u8 (text_of cs) e)))
        where
          same : text_of (c ∷ d ∷ cs) ≡ 56 ∷ 34 ∷ text_of cs
          same = cc
      by (Some n) e = token_first a from (suc (suc n)) _ (c ∷ d ∷ cs) Str refl (ap longest_part spelled ∙ longest_u8 n (text_of cs) e) (slash (text_of (c ∷ d ∷ cs)))

  no_more : (p q : Bool) → (p && (q && false)) ≡ false
  no_more true true = refl
  no_more true false = refl
  no_more false q = refl

  none_wide : (t : Bool) → (t && false) ≡ false
  none_wide true = refl
  none_wide false = refl

  none_text : (t : Bool) → ((t && false) || false) ≡ false
  none_text true = refl
  none_text false = refl

  none_behind : HasNoLiteral a []
  none_behind zero l = (none_wide (is_wide a), none_text (is_wide a))
  none_behind (suc m) l = absurd (omega arith)

  -- no quote directly behind
  eight_first : (c : Cell) (cs : List Cell) (u e : Bool) → (c.byte == 39) ≡ false → (c.byte == 34) ≡ false → (a == 117) ≡ u → (c.byte == 56) ≡ e
      → IsFirst a from (c ∷ cs) (or_ident (c ∷ cs) (if u && e then u8_part cs else None))
  eight_first c cs true true s d eu ee = by cs
    where
      by : (cs : List Cell) → IsFirst a from (c ∷ cs) (or_ident (c ∷ cs) (u8_part cs))
      by [] = ident_first (c ∷ []) (no_quote a c.byte [] s d (no_more (a == 117) (c.byte == 56)))
      by (x ∷ cs) = on (x.byte == 34) refl
        where
          on : (t : Bool) → (x.byte == 34) ≡ t → IsFirst a from (c ∷ x ∷ cs) (or_ident (c ∷ x ∷ cs) (if t then string_part (x.at + 1) cs else None))
          on true f = u8_first c x cs (eqb-true a 117 eu) (eqb-true c.byte 56 ee) (eqb-true x.byte 34 f)
          on false f = ident_first (c ∷ x ∷ cs) (no_quote a c.byte (text_of (x ∷ cs)) s d (ap (λ t. a == 117 && (c.byte == 56 && t)) f ∙ no_more (a == 117) (c.byte == 56)))
  eight_first c cs true false s d eu ee = ident_first (c ∷ cs) (no_quote a c.byte (text_of cs) s d (ap (λ t. a == 117 && (t && starts_with 34 (text_of cs))) ee ∙ none_wide (a == 117)))
  eight_first c cs false e s d eu ee = ident_first (c ∷ cs) (no_quote a c.byte (text_of cs) s d (ap (λ t. t && (c.byte == 56 && starts_with 34 (text_of cs))) eu))

  word_first : (cs : List Cell) → IsFirst a from cs (word_part a from cs)
  word_first [] = ident_first [] none_behind
  word_first (c ∷ cs) = by (is_wide a) (c.byte == 39) (c.byte == 34) refl refl refl
    where
      plain : (t : Bool) → (a == 117) ≡ t → is_wide a ≡ false → (a == 117) ≡ false
      plain true u w = let bad : true ≡ false = sym (ap is_wide (eqb-true a 117 u)) ∙ w in cc
      plain false u w = u

      by : (w s d : Bool) → is_wide a ≡ w → (c.byte == 39) ≡ s → (c.byte == 34) ≡ d
          → IsFirst a from (c ∷ cs) (or_ident (c ∷ cs) (if w && (s || d) then (if s then char_part (c.at + 1) cs else if d then string_part (c.at + 1) cs else None) else if a == 117 && c.byte == 56 then u8_part cs else None))
      by true true d ew es ed = wide_char_first c cs ew (eqb-true c.byte 39 es)
      by true false true ew es ed = wide_string_first c cs ew (eqb-true c.byte 34 ed)
      by true false false ew es ed = eight_first c cs (a == 117) (c.byte == 56) es ed refl refl
      by false s d ew es ed =
          subst (λ t. IsFirst a from (c ∷ cs) (or_ident (c ∷ cs) (if t && c.byte == 56 then u8_part cs else None))) (sym (plain (a == 117) refl ew))
          (ident_first (c ∷ cs) (no_prefix a (text_of (c ∷ cs)) ew (plain (a == 117) refl ew)))

pub part_is_first : (a from : ℕ) (cs : List Cell) → IsFirst a from cs (part_behind a from cs)
part_is_first a from cs = by (is_blank_byte a) (a == 10) (starts_name a) (is_digit a) (a == 46) (is_quote a) (a == 47) refl refl refl refl refl refl refl
  where
    quote : (t : Bool) → (a == 39) ≡ t → is_quote a ≡ true → IsFirst a from cs (quote_part a from cs)
    quote true e q = subst (λ x. IsFirst x from cs (quote_part x from cs)) (sym (eqb-true a 39 e)) (single_first from cs)
    quote false e q = subst (λ x. IsFirst x from cs (quote_part x from cs)) (sym (eqb-true a 34 (sym (ap (λ t. t || a == 34) e) ∙ q))) (double_first from cs)

    by : (bl le nm dg dt q sl : Bool) → is_blank_byte a ≡ bl → (a == 10) ≡ le → starts_name a ≡ nm → is_digit a ≡ dg → (a == 46) ≡ dt → is_quote a ≡ q → (a == 47) ≡ sl
        → IsFirst a from cs (if bl then part found.Space from else if le then part found.LineEnd from else if nm then word_part a from cs else if dg then part (found.Piece Number) (number_end a from cs) else if dt then dot_part from cs else if q then quote_part a from cs else if sl then slash_part from cs else punct_part a from cs)
    by true le nm dg dt q sl e1 e2 e3 e4 e5 e6 e7 = space_first a from 0 from cs refl (inl (longest_blank a (text_of cs) e1))
    by false true nm dg dt q sl e1 e2 e3 e4 e5 e6 e7 = (0, refl, ap (λ x. longest_part (x ∷ text_of cs)) (eqb-true a 10 e2) ∙ longest_end (text_of cs))
    by false false true dg dt q sl e1 e2 e3 e4 e5 e6 e7 = word_first a from e3 cs
    by false false false true dt q sl e1 e2 e3 e4 e5 e6 e7 = token_first a from (number_run a (text_of cs)) _ cs Number (number_cells a from cs) (longest_number a (text_of cs) e4) (not_open a (text_of cs) (grind (arith, nat_tests)))
    by false false false false true q sl e1 e2 e3 e4 e5 e6 e7 = subst (λ x. IsFirst x from cs (dot_part from cs)) (sym (eqb-true a 46 e5)) (dot_first from cs)
    by false false false false false true sl e1 e2 e3 e4 e5 e6 e7 = quote (a == 39) refl e6
    by false false false false false false true e1 e2 e3 e4 e5 e6 e7 = subst (λ x. IsFirst x from cs (slash_part from cs)) (sym (eqb-true a 47 e7)) (slash_first from cs)
    by false false false false false false false e1 e2 e3 e4 e5 e6 e7 = punct_first a from cs (other_puncts a (text_of cs) e1 e2 e7 e3 e4 e5 e6) (not_open a (text_of cs) (grind (arith, nat_tests)))

-- the same of a part that the code found
pub found_is_first : (a b from : ℕ) (cs : List Cell) (p : Part) → a ≡ b → p ≡ part_behind a from cs → IsFirst b from cs p
found_is_first a b from cs p same e = subst (IsFirst b from cs) (ap (λ x. part_behind x from cs) (sym same) ∙ sym e) (part_is_first b from cs)
