-- A name that stands byte by byte where a token of its text begins has no join inside.
use Rattle.std.proofs.Common.{◌≡◌, ℕ, zero, suc, ◌+◌, ◌-◌, Bool, true, false, cond, List, [], ◌∷◌, ◌++◌, length, take, drop, refl, ap, sym, ◌∙◌, subst, Some, None, Option, arith, take-append-drop}
use Rattle.std.specs.Prelude.{codes, ◌&&◌, not, nat_le, nat_eq, Contains}
use Rattle.std.specs.List.{AllByRecursion, starts_with}
use Rattle.std.proofs.lemmas.Bool.{eq-eqb}
use Rattle.std.proofs.lemmas.Slice.Eq.{bytes_eq-Decides}
use Rattle.cr_base.specs.Names.{is_identifier}
use Rattle.cr_base.specs.declared.token.PpKind.{PpKind}
use Rattle.cr_lex.specs.Spellings.{Part, Piece, Blank, Comment, LineEnd}
use Rattle.cr_lex.specs.Joins.{Cell, text_of, begins, cells, is_trigraph, line_after, join_len, unless_joined}
use Rattle.cr_lex.specs.Lexing.{Lexed, OpenComment, Before, at_start, longest_part, by_part, end_of, token, with_token, unless_trigraph, first_trigraph, stop, cut, lexed}
use Rattle.cr_lex.specs.Lexing as lexing
use Rattle.cr_lex.proofs.Edited.{name_cells, cells_name, identifier_words}
use Rattle.cr_class.specs.Verdict.{stands_at}
use Rattle.cr_keeps.proofs.EditingStated.{NamesStandWhole}

module _ (bytes : List ℕ) where
  -- each end of a list of cells has the cells of the bytes from its first one on
  abbrev AreRest : List Cell → Type 0
  AreRest [] = Unit {0}
  AreRest (c ∷ cs) = ((c ∷ cs) ≡ cells zero c.at c.line (drop c.at bytes)) × AreRest cs

  next_drop : (at b : ℕ) (bs xs : List ℕ) → b ∷ bs ≡ drop at xs → bs ≡ drop (at + 1) xs
  next_drop zero b bs [] e = cc
  next_drop zero b bs (x ∷ xs) e = let same : bs ≡ xs = cc in let n : 0 + 1 ≡ suc 0 = omega arith in same ∙ sym (ap (λ k. drop k (x ∷ xs)) n)
  next_drop (suc at) b bs [] e = cc
  next_drop (suc at) b bs (x ∷ xs) e = let n : suc at + 1 ≡ suc (at + 1) = omega arith in next_drop at b bs xs e ∙ sym (ap (λ k. drop k (x ∷ xs)) n)

  rest_of : (xs : List ℕ) (skip at line : ℕ) → xs ≡ drop at bytes → AreRest (cells skip at line xs)
  unfolding cells
  rest_of [] skip at line e = tt
  rest_of (b ∷ bs) skip at line e = by skip (λ s. rest_of bs s (at + 1) (line_after line b) (next_drop at b bs bytes e))
    where
      at_zero : (j : ℕ) → join_len (b ∷ bs) ≡ j → AreRest (cells (j - 1) (at + 1) (line_after line b) bs) → AreRest (unless_joined (record { byte = b; at = at; line = line; trigraph = is_trigraph (b ∷ bs) }) (cells (j - 1) (at + 1) (line_after line b) bs) j)
      at_zero (suc n) h k = k
      at_zero zero h k = (sym (ap (λ j. unless_joined (record { byte = b; at = at; line = line; trigraph = is_trigraph (b ∷ bs) }) (cells (j - 1) (at + 1) (line_after line b) bs) j) h) ∙ ap (cells zero at line) e, k)

      by : (skip : ℕ) → ((s : ℕ) → AreRest (cells s (at + 1) (line_after line b) bs)) → AreRest (cells skip at line (b ∷ bs))
      by zero more = at_zero (join_len (b ∷ bs)) refl (more (join_len (b ∷ bs) - 1))
      by (suc n) more = more (suc n - 1)

-- ---- cells of a name

taken_by : {A : Type 0} (n k : ℕ) (xs : List A) → length (take n xs) ≡ k → take n xs ≡ take k xs
taken_by zero zero xs h = refl
taken_by zero (suc k) xs h = absurd (omega (arith, h))
taken_by (suc n) zero [] h = refl
taken_by (suc n) (suc k) [] h = refl
taken_by (suc n) zero (x ∷ xs) h = absurd (omega (arith, h))
taken_by (suc n) (suc k) (x ∷ xs) h = ap (λ l. x ∷ l) (taken_by n k xs (omega (arith, h)))

same_length : (cs : List Cell) → length (text_of cs) ≡ length cs
same_length [] = refl
same_length (c ∷ cs) = ap suc (same_length cs)

take_name : (ws : List ℕ) (at line : ℕ) (cs : List Cell) → take (length ws) (name_cells at line ws ++ cs) ≡ name_cells at line ws
take_name [] at line cs = refl
take_name (w ∷ ws) at line cs = ap (λ l. record { byte = w; at = at; line = line; trigraph = false } ∷ l) (take_name ws (at + 1) line cs)

name_length : (ws : List ℕ) (at line : ℕ) → length (name_cells at line ws) ≡ length ws
name_length [] at line = refl
name_length (w ∷ ws) at line = ap suc (name_length ws (at + 1) line)

name_end : (w : ℕ) (ws : List ℕ) (at line : ℕ) → end_of (name_cells at line (w ∷ ws)) ≡ at + length (w ∷ ws)
name_end w [] at line = omega arith
name_end w (v ∷ ws) at line = let h : end_of (name_cells (at + 1) line (v ∷ ws)) ≡ at + 1 + length (v ∷ ws) = name_end v ws (at + 1) line in omega (arith, h)

module _ (bytes old : List ℕ) (name : is_identifier old ≡ true) where
  abbrev IsWhole : lexing.Token → Type 0
  IsWhole t = t.text ≡ old → stands_at old bytes t.at ≡ true → (t.joined ≡ false) × (t.end ≡ t.at + length old)

  right_part : (a b : Bool) → (a && b) ≡ true → b ≡ true
  right_part true b h = h
  right_part false b h = cc

  front : (at : ℕ) → stands_at old bytes at ≡ true → drop at bytes ≡ old ++ drop (length old) (drop at bytes)
  front at h =
      let e : old ≡ take (length old) (drop at bytes) = (bytes_eq-Decides old (take (length old) (drop at bytes))).0 (right_part (nat_le (at + length old) (length bytes)) (starts_with nat_eq (drop at bytes) old) h) in
      sym (take-append-drop (length old) (drop at bytes)) ∙ ap (λ l. l ++ drop (length old) (drop at bytes)) (sym e)

  ends_at : (text : List ℕ) (at line : ℕ) → is_identifier text ≡ true → end_of (name_cells at line text) ≡ at + length text
  ends_at [] at line h = cc
  ends_at (w ∷ ws) at line h = name_end w ws at line

  own_cells : (n : ℕ) (c : Cell) (cs : List Cell) → (c ∷ cs) ≡ cells zero c.at c.line (drop c.at bytes) → text_of (take n (c ∷ cs)) ≡ old → stands_at old bytes c.at ≡ true → take n (c ∷ cs) ≡ name_cells c.at c.line old
  own_cells n c cs e text st =
      taken_by n (length old) (c ∷ cs) (sym (same_length (take n (c ∷ cs))) ∙ ap length text)
      ∙ ap (take (length old)) (e ∙ ap (cells zero c.at c.line) (front c.at st) ∙ cells_name old (drop (length old) (drop c.at bytes)) c.at c.line (identifier_words old name))
      ∙ take_name old c.at c.line (cells zero (c.at + length old) c.line (drop (length old) (drop c.at bytes)))

  whole_token : (n : ℕ) (before : Before) (kind : PpKind) (c : Cell) (cs : List Cell) → (c ∷ cs) ≡ cells zero c.at c.line (drop c.at bytes) → IsWhole (token before kind c (take n (c ∷ cs)))
  whole_token n before kind c cs e text st =
      let own : take n (c ∷ cs) ≡ name_cells c.at c.line old = own_cells n c cs e text st in
      let end : end_of (take n (c ∷ cs)) ≡ c.at + length old = ap end_of own ∙ ends_at old c.at c.line name in
      let size : length (take n (c ∷ cs)) ≡ length old = ap length own ∙ name_length old c.at c.line in
      (ap not (eq-eqb (end_of (take n (c ∷ cs))) (c.at + length (take n (c ∷ cs))) (end ∙ ap (λ k. c.at + k) (sym size))), end)

  whole_if : (b : Bool) (l m : Lexed) → AllByRecursion IsWhole l.tokens → AllByRecursion IsWhole m.tokens → AllByRecursion IsWhole (cond b l m).tokens
  whole_if true l m h k = h
  whole_if false l m h k = k

  whole_unless : (l : Lexed) (o : Option ℕ) → AllByRecursion IsWhole l.tokens → AllByRecursion IsWhole (unless_trigraph l o).tokens
  whole_unless l None h = h
  whole_unless l (Some at) h = tt

  all_whole : (cs : List Cell) → AreRest bytes cs → (before : Before) (skip : ℕ) → AllByRecursion IsWhole (cut before skip cs).tokens
  unfolding cut
  all_whole [] a before skip = tt
  all_whole (c ∷ cs) a before (suc skip) = all_whole cs a.1 before skip
  all_whole (c ∷ cs) a before zero = go (longest_part (text_of (c ∷ cs))) (all_whole cs a.1) where
    go : (p : ℕ × Part) → ((b : Before) (n : ℕ) → AllByRecursion IsWhole (cut b n cs).tokens) → AllByRecursion IsWhole (by_part before c cs (λ after n. cut after n cs) p).tokens
    go (n, Blank) k = k (record before { space = true }) (n - 1)
    go (n, Comment) k = k (record before { space = true }) (n - 1)
    go (n, LineEnd) k = k (record { first = true; space = true }) (n - 1)
    go (n, Piece kind) k =
        whole_if (begins (codes "/*") (text_of (c ∷ cs))) (stop (OpenComment c.at)) (unless_trigraph (with_token (token before kind c (take n (c ∷ cs))) (cut (record { first = false; space = false }) (n - 1) cs)) (first_trigraph (take n (c ∷ cs)))) tt
        (whole_unless (with_token (token before kind c (take n (c ∷ cs))) (cut (record { first = false; space = false }) (n - 1) cs)) (first_trigraph (take n (c ∷ cs)))
        (whole_token n before kind c cs a.0, k (record { first = false; space = false }) (n - 1)))

  whole_tokens : AllByRecursion IsWhole (lexed bytes).tokens
  unfolding lexed
  whole_tokens = all_whole (cells zero 0 1 bytes) (rest_of bytes bytes zero 0 1 refl) at_start zero

one_of : {A : Type 0} (P : A → Type 0) (xs : List A) (x : A) → AllByRecursion P xs → Contains xs x → P x
one_of P [] x h c = absurd (omega (arith, c.1))
one_of P (y ∷ xs) x h (zero, w, e) = subst P e h.0
one_of P (y ∷ xs) x h (suc n, w, e) = one_of P xs x h.1 (n, omega (arith, w), e)

pub names_stand_whole : NamesStandWhole
names_stand_whole bytes old t name c text st = one_of (IsWhole bytes old name) (lexed bytes).tokens t (whole_tokens bytes old name) c text st
