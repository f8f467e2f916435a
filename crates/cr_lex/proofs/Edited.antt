-- The cells of a file with a new name at places.
use Rattle.std.proofs.Common.{◌≡◌, ℕ, zero, suc, ◌+◌, ◌-◌, ◌<◌, ◌≤◌, Bool, true, false, ◌&&◌, ◌||◌, cond, List, [], ◌∷◌, ◌++◌, length, map, drop, refl, ap, ◌∙◌, arith, codes}
use Rattle.std.specs.Prelude.{◌==◌, if◌then◌else◌}
use Rattle.std.specs.List.{list_all}
use Rattle.std.proofs.lemmas.Bool.{and_parts, and_left}
use Rattle.std.proofs.lemmas.Bool.Decides.{nat_tests}
use Rattle.cr_base.specs.Names.{is_identifier, is_word_byte, is_digit, starts_name}
use Rattle.cr_lex.specs.Spellings.{is_one_of}
use Rattle.cr_lex.specs.Joins.{Cell, cells, joined_from, unless_joined, join_len, begins, is_trigraph, line_after}

-- the cells of a name, each behind the one before, from an offset on
abbrev pub name_cells : ℕ → ℕ → List ℕ → List Cell
name_cells at line [] = []
name_cells at line (b ∷ bs) = record { byte = b; at = at; line = line; trigraph = false } ∷ name_cells (at + 1) line bs

abbrev pub moved_to : (ℕ → ℕ) → Cell → Cell
moved_to shift c = record c { at = shift c.at }

-- The cells with the new name's at each place, of so many bytes before; the first `skip` are replaced already.
abbrev pub edited : (ℕ → Bool) → (ℕ → ℕ) → ℕ → List ℕ → ℕ → List Cell → List Cell
edited place shift old new skip [] = []
edited place shift old new (suc skip) (c ∷ cs) = edited place shift old new skip cs
edited place shift old new zero (c ∷ cs) =
    if place c.at then name_cells (shift c.at) c.line new ++ edited place shift old new (old - 1) cs
    else moved_to shift c ∷ edited place shift old new zero cs

-- what stands before a letter is cut as if nothing stood behind it

letter_is : (l : ℕ) → starts_name l ≡ true → ((10 == l) ≡ false) × ((13 == l) ≡ false) × ((l == 63) ≡ false) × (is_one_of (codes "=(/)'<!>-") l ≡ false)
letter_is l h = (grind (arith, nat_tests), grind (arith, nat_tests), grind (arith, nat_tests), grind (arith, nat_tests))

and_no : (t : Bool) → (t && false) ≡ false
and_no true = refl
and_no false = refl

join_before : (b l : ℕ) (f ys : List ℕ) → starts_name l ≡ true → join_len (b ∷ f ++ l ∷ ys) ≡ join_len (b ∷ f)
join_before b l [] ys h = let k = letter_is l h in by (92 == b) (10 == l) (13 == l) k.0 k.1
  where
    by : (t u v : Bool) → u ≡ false → v ≡ false → ◌≡◌ {A = ℕ} (cond (t && (u && true)) 2 (cond (t && (v && begins (10 ∷ []) ys)) 3 0)) (cond (t && false) 2 (cond (t && false) 3 0))
    by true true v e f = cc
    by true false true e f = cc
    by true false false e f = refl
    by false u v e f = refl
join_before b l (c ∷ []) ys h = let k = letter_is l h in by (92 == b) (10 == c) (13 == c) (10 == l) k.0
  where
    by : (t u v w : Bool) → w ≡ false → ◌≡◌ {A = ℕ} (cond (t && (u && true)) 2 (cond (t && (v && (w && true))) 3 0)) (cond (t && (u && true)) 2 (cond (t && (v && false)) 3 0))
    by t u v true e = cc
    by true true v false e = refl
    by true false true false e = refl
    by true false false false e = refl
    by false u v false e = refl
join_before b l (c ∷ d ∷ f) ys h = refl

trigraph_before : (b l : ℕ) (f ys : List ℕ) → starts_name l ≡ true → is_trigraph (b ∷ f ++ l ∷ ys) ≡ is_trigraph (b ∷ f)
trigraph_before b l [] [] h = refl
trigraph_before b l [] (y ∷ ys) h = ap (λ t. b == 63 && (t && is_one_of (codes "=(/)'<!>-") y)) (letter_is l h).2 ∙ and_no (b == 63)
trigraph_before b l (c ∷ []) ys h = ap (λ t. b == 63 && (c == 63 && t)) (letter_is l h).3 ∙ by (b == 63) (c == 63)
  where
    by : (t u : Bool) → (t && (u && false)) ≡ false
    by true true = refl
    by true false = refl
    by false u = refl
trigraph_before b l (c ∷ d ∷ f) ys h = refl

abbrev pub lines_over : ℕ → List ℕ → ℕ
lines_over line [] = line
lines_over line (b ∷ bs) = lines_over (line_after line b) bs

begins_length : (f bs : List ℕ) → begins f bs ≡ true → length f ≤ length bs
begins_length [] bs h = omega arith
begins_length (x ∷ f) [] h = cc
begins_length (x ∷ f) (b ∷ bs) h = omega (arith, begins_length f bs (and_parts (x == b) (begins f bs) h).1)

join_small : (bs : List ℕ) → join_len bs ≤ length bs
join_small bs = by (begins (92 ∷ 10 ∷ []) bs) (begins (92 ∷ 13 ∷ 10 ∷ []) bs) (begins_length (92 ∷ 10 ∷ []) bs) (begins_length (92 ∷ 13 ∷ 10 ∷ []) bs)
  where
    by : (p q : Bool) → (p ≡ true → 2 ≤ length bs) → (q ≡ true → 3 ≤ length bs) → cond p 2 (cond q 3 0) ≤ length bs
    by true q f g = f refl
    by false true f g = g refl
    by false false f g = omega arith

joined_small : (bs : List ℕ) (skip : ℕ) → skip ≤ length bs → joined_from bs skip ≤ length bs
joined_small bs zero h = join_small bs
joined_small bs (suc n) h = h

joined_before : (b l : ℕ) (f ys : List ℕ) (skip : ℕ) → starts_name l ≡ true → joined_from (b ∷ f ++ l ∷ ys) skip ≡ joined_from (b ∷ f) skip
joined_before b l f ys zero h = join_before b l f ys h
joined_before b l f ys (suc n) h = refl

pub cells_before : (f : List ℕ) (l : ℕ) (ys : List ℕ) (skip at line : ℕ) → starts_name l ≡ true → skip ≤ length f
    → cells skip at line (f ++ l ∷ ys) ≡ cells skip at line f ++ cells zero (at + length f) (lines_over line f) (l ∷ ys)
unfolding cells
cells_before [] l ys skip at line h s =
    ap (λ n. cells n at line (l ∷ ys)) (let e : skip ≡ zero = omega arith in e) ∙ ap (λ n. cells zero n line (l ∷ ys)) (let e : at ≡ at + length {A = ℕ} [] = omega arith in e)
cells_before (b ∷ f) l ys skip at line h s =
    ap (λ n. unless_joined (record { byte = b; at = at; line = line; trigraph = is_trigraph (b ∷ f ++ l ∷ ys) }) (cells (n - 1) (at + 1) (line_after line b) (f ++ l ∷ ys)) n) (joined_before b l f ys skip h)
    ∙ ap (λ t. unless_joined (record { byte = b; at = at; line = line; trigraph = t }) (cells (joined_from (b ∷ f) skip - 1) (at + 1) (line_after line b) (f ++ l ∷ ys)) (joined_from (b ∷ f) skip)) (trigraph_before b l f ys h)
    ∙ ap (λ cs. unless_joined (record { byte = b; at = at; line = line; trigraph = is_trigraph (b ∷ f) }) cs (joined_from (b ∷ f) skip))
    (cells_before f l ys (joined_from (b ∷ f) skip - 1) (at + 1) (line_after line b) h (omega (arith, joined_small (b ∷ f) skip s))
    ∙ ap (λ n. cells (joined_from (b ∷ f) skip - 1) (at + 1) (line_after line b) f ++ cells zero n (lines_over (line_after line b) f) (l ∷ ys)) (let e : at + 1 + length f ≡ at + length (b ∷ f) = omega arith in e))
    ∙ out (joined_from (b ∷ f) skip) (record { byte = b; at = at; line = line; trigraph = is_trigraph (b ∷ f) }) _ _
  where
    out : (n : ℕ) (c : Cell) (xs zs : List Cell) → unless_joined c (xs ++ zs) n ≡ unless_joined c xs n ++ zs
    out zero c xs zs = refl
    out (suc n) c xs zs = refl

-- a name is cut byte by byte

pub word_is : (w : ℕ) → is_word_byte w ≡ true → ((92 == w) ≡ false) × ((w == 63) ≡ false) × ((w == 10) ≡ false)
word_is w h = (grind (arith, nat_tests), grind (arith, nat_tests), grind (arith, nat_tests))

no_trigraph : (w : ℕ) (ys : List ℕ) → (w == 63) ≡ false → is_trigraph (w ∷ ys) ≡ false
no_trigraph w [] h = refl
no_trigraph w (a ∷ []) h = refl
no_trigraph w (a ∷ b ∷ ys) h = and_left (w == 63) (a == 63 && is_one_of (codes "=(/)'<!>-") b) h

pub no_join : (w : ℕ) (ys : List ℕ) → (92 == w) ≡ false → join_len (w ∷ ys) ≡ 0
no_join w ys h = ap (λ t. cond (t && begins (10 ∷ []) ys) 2 (cond (t && begins (13 ∷ 10 ∷ []) ys) 3 0)) h

pub cells_name : (ws ys : List ℕ) (at line : ℕ) → list_all is_word_byte ws ≡ true → cells zero at line (ws ++ ys) ≡ name_cells at line ws ++ cells zero (at + length ws) line ys
unfolding cells
cells_name [] ys at line h = ap (λ n. cells zero n line ys) (let e : at ≡ at + length {A = ℕ} [] = omega arith in e)
cells_name (w ∷ ws) ys at line h =
    let p = and_parts (is_word_byte w) (list_all is_word_byte ws) h in
    let k = word_is w p.0 in
    ap (λ n. unless_joined (record { byte = w; at = at; line = line; trigraph = is_trigraph (w ∷ ws ++ ys) }) (cells (n - 1) (at + 1) (line_after line w) (ws ++ ys)) n) (no_join w (ws ++ ys) k.0)
    ∙ ap (λ t. record { byte = w; at = at; line = line; trigraph = t } ∷ cells zero (at + 1) (line_after line w) (ws ++ ys)) (no_trigraph w (ws ++ ys) k.1)
    ∙ ap (λ n. record { byte = w; at = at; line = line; trigraph = false } ∷ cells zero (at + 1) n (ws ++ ys)) (ap (λ t. cond t (line + 1) line) k.2)
    ∙ ap (λ cs. record { byte = w; at = at; line = line; trigraph = false } ∷ cs) (cells_name ws ys (at + 1) line p.1 ∙ ap (λ n. name_cells (at + 1) line ws ++ cells zero n line ys) (let e : at + 1 + length ws ≡ at + length (w ∷ ws) = omega arith in e))

pub identifier_words : (name : List ℕ) → is_identifier name ≡ true → list_all is_word_byte name ≡ true
identifier_words [] h = cc
identifier_words (b ∷ bs) h = let p = and_parts (starts_name b) (list_all is_word_byte bs) h in ap (λ t. t && list_all is_word_byte bs) (word b p.0) ∙ p.1
  where
    word : (b : ℕ) → starts_name b ≡ true → is_word_byte b ≡ true
    word b h = ap (λ t. t || is_digit b) h

-- the same bytes elsewhere
pub cells_moved : (shift : ℕ → ℕ) (f : List ℕ) (skip at to line : ℕ) → ((i : ℕ) → i < length f → shift (at + i) ≡ to + i) → map (moved_to shift) (cells skip at line f) ≡ cells skip to line f
unfolding cells
cells_moved shift [] skip at to line h = refl
cells_moved shift (b ∷ f) skip at to line h =
    by (joined_from (b ∷ f) skip) (cells_moved shift f (joined_from (b ∷ f) skip - 1) (at + 1) (to + 1) (line_after line b) (λ i l. ap shift (let e : at + 1 + i ≡ at + suc i = omega arith in e) ∙ h (suc i) (omega arith) ∙ (let e : to + suc i ≡ to + 1 + i = omega arith in e)))
  where
    here : shift at ≡ to
    here = ap shift (let e : at ≡ at + 0 = omega arith in e) ∙ h 0 (omega arith) ∙ (let e : to + 0 ≡ to = omega arith in e)

    by : (n : ℕ) → map (moved_to shift) (cells (joined_from (b ∷ f) skip - 1) (at + 1) (line_after line b) f) ≡ cells (joined_from (b ∷ f) skip - 1) (to + 1) (line_after line b) f
        → map (moved_to shift) (unless_joined (record { byte = b; at = at; line = line; trigraph = is_trigraph (b ∷ f) }) (cells (joined_from (b ∷ f) skip - 1) (at + 1) (line_after line b) f) n)
        ≡ unless_joined (record { byte = b; at = to; line = line; trigraph = is_trigraph (b ∷ f) }) (cells (joined_from (b ∷ f) skip - 1) (to + 1) (line_after line b) f) n
    by zero ih = ap (λ t. record { byte = b; at = t; line = line; trigraph = is_trigraph (b ∷ f) } ∷ map (moved_to shift) (cells (joined_from (b ∷ f) skip - 1) (at + 1) (line_after line b) f)) here
        ∙ ap (λ cs. record { byte = b; at = to; line = line; trigraph = is_trigraph (b ∷ f) } ∷ cs) ih
    by (suc n) ih = ih

module _ (place : ℕ → Bool) (shift : ℕ → ℕ) (old : ℕ) (new : List ℕ) where
  -- none of the bytes is a place
  abbrev pub NoPlace : ℕ → ℕ → Type 0
  NoPlace from end = (p : ℕ) → from ≤ p → p < end → place p ≡ false

  pub edited_before : (f : List ℕ) (skip at line : ℕ) (cs : List Cell) → NoPlace at (at + length f)
      → edited place shift old new zero (cells skip at line f ++ cs) ≡ map (moved_to shift) (cells skip at line f) ++ edited place shift old new zero cs
  unfolding cells
  edited_before [] skip at line cs h = refl
  edited_before (b ∷ f) skip at line cs h = by (joined_from (b ∷ f) skip) (edited_before f (joined_from (b ∷ f) skip - 1) (at + 1) (line_after line b) cs (λ p l g. h p (omega arith) (omega arith)))
    where
      by : (n : ℕ) → edited place shift old new zero (cells (joined_from (b ∷ f) skip - 1) (at + 1) (line_after line b) f ++ cs) ≡ map (moved_to shift) (cells (joined_from (b ∷ f) skip - 1) (at + 1) (line_after line b) f) ++ edited place shift old new zero cs
          → edited place shift old new zero (unless_joined (record { byte = b; at = at; line = line; trigraph = is_trigraph (b ∷ f) }) (cells (joined_from (b ∷ f) skip - 1) (at + 1) (line_after line b) f) n ++ cs)
          ≡ map (moved_to shift) (unless_joined (record { byte = b; at = at; line = line; trigraph = is_trigraph (b ∷ f) }) (cells (joined_from (b ∷ f) skip - 1) (at + 1) (line_after line b) f) n) ++ edited place shift old new zero cs
      by zero ih =
          ap (λ t. cond t (name_cells (shift at) line new ++ edited place shift old new (old - 1) (cells (joined_from (b ∷ f) skip - 1) (at + 1) (line_after line b) f ++ cs)) (record { byte = b; at = shift at; line = line; trigraph = is_trigraph (b ∷ f) } ∷ edited place shift old new zero (cells (joined_from (b ∷ f) skip - 1) (at + 1) (line_after line b) f ++ cs))) (h at (omega arith) (omega arith))
          ∙ ap (λ cs. record { byte = b; at = shift at; line = line; trigraph = is_trigraph (b ∷ f) } ∷ cs) ih
      by (suc n) ih = ih

  pub edited_skip : (n : ℕ) (cs : List Cell) → edited place shift old new n cs ≡ edited place shift old new zero (drop n cs)
  edited_skip zero cs = refl
  edited_skip (suc n) [] = refl
  edited_skip (suc n) (c ∷ cs) = edited_skip n cs

  pub drop_name : (ws : List ℕ) (at line : ℕ) (cs : List Cell) → drop (length ws) (name_cells at line ws ++ cs) ≡ cs
  drop_name [] at line cs = refl
  drop_name (w ∷ ws) at line cs = drop_name ws (at + 1) line cs

  pub edited_place : (w : ℕ) (ws : List ℕ) (at line : ℕ) (cs : List Cell) → place at ≡ true → old ≡ length (w ∷ ws)
      → edited place shift old new zero (name_cells at line (w ∷ ws) ++ cs) ≡ name_cells (shift at) line new ++ edited place shift old new zero cs
  edited_place w ws at line cs h e =
      ap (λ t. cond t (name_cells (shift at) line new ++ edited place shift old new (old - 1) (name_cells (at + 1) line ws ++ cs)) (record { byte = w; at = shift at; line = line; trigraph = false } ∷ edited place shift old new zero (name_cells (at + 1) line ws ++ cs))) h
      ∙ ap (λ cs. name_cells (shift at) line new ++ cs) (ap (λ n. edited place shift old new n (name_cells (at + 1) line ws ++ cs)) (let k : old - 1 ≡ length ws = omega arith in k) ∙ edited_skip (length ws) (name_cells (at + 1) line ws ++ cs) ∙ ap (edited place shift old new zero) (drop_name ws (at + 1) line cs))
