-- What is cut at the front, by the part that the code finds there.
use Rattle.std.proofs.Common.{◌≡◌, ℕ, zero, suc, ◌+◌, ◌-◌, ◌<◌, ◌≤◌, ◌⊎◌, inl, inr, true, false, cond, List, [], ◌∷◌, length, take, drop, get_or, None, refl, ap, sym, ◌∙◌, subst, arith, codes}
use Rattle.std.proofs.lemmas.Bool.{cases_lt, lt-ltb, le-ltb}
use Rattle.cr_base.specs.declared.token.PpKind.TheVariants.{Punct}
use Rattle.cr_lex.specs.Spellings as spellings
use Rattle.cr_lex.specs.Joins.{Cell, join_len, text_of, begins}
use Rattle.cr_lex.specs.Lexing.{Before, Lexed, longest_part, by_part, cut, stop, token, with_token, unless_trigraph, first_trigraph, end_of, OpenComment}
use Rattle.cr_lex.specs.Scanning.{cell_of, behind, AreMarks, Unclosed, upto, own_cells}
use Rattle.cr_lex.specs.Joins.{rest}
use Rattle.cr_lex.specs.Standing.{in_line, found_gives}
use Rattle.cr_lex.specs.declared.part.Marks.{Marks}
use Rattle.cr_lex.specs.declared.part.Found.{Found}
use Rattle.cr_lex.specs.declared.part.Found.TheVariants as found
use Rattle.cr_lex.specs.declared.part.Part.{Part}
use Rattle.cr_lex.proofs.Cells.{rest_byte, rest_join, rest_end, join_within}
use Rattle.cr_lex.proofs.Marks.{Rising, rest_rises}

pub skip_cut : (before : Before) (n : ℕ) (cs : List Cell) → cut before n cs ≡ cut before zero (drop n cs)
unfolding cut
skip_cut before zero cs = refl
skip_cut before (suc n) [] = refl
skip_cut before (suc n) (c ∷ cs) = skip_cut before n cs

pub cut_one : (before : Before) (c : Cell) (cs : List Cell) → cut before zero (c ∷ cs) ≡ by_part before c cs (λ after n. cut after n cs) (longest_part (text_of (c ∷ cs)))
unfolding cut
cut_one before c cs = refl

pub cut_none : (before : Before) → cut before zero [] ≡ record { tokens = []; fault = None }
unfolding cut
cut_none before = refl

-- what follows the first cell from an offset on
pub rest_next : (n : ℕ) (bytes : List ℕ) (from : ℕ) (c : Cell) (cs : List Cell) → length bytes - from ≤ n → rest bytes from ≡ c ∷ cs → (cs ≡ rest bytes (c.at + 1)) × (c.at < length bytes) × (rest bytes c.at ≡ c ∷ cs) × (c.byte ≡ get_or bytes c.at 0)
rest_next zero bytes from c cs size e = let none = rest_end bytes from (omega arith) in cc
rest_next (suc n) bytes from c cs size e = by (cases_lt from (length bytes)) (λ k h f. rest_next n bytes k c cs h f)
  where
    joined : from < length bytes → (k : ℕ) → k ≡ join_len (drop from bytes) → ((k : ℕ) → length bytes - k ≤ n → rest bytes k ≡ c ∷ cs → (cs ≡ rest bytes (c.at + 1)) × (c.at < length bytes) × (rest bytes c.at ≡ c ∷ cs) × (c.byte ≡ get_or bytes c.at 0)) → (cs ≡ rest bytes (c.at + 1)) × (c.at < length bytes) × (rest bytes c.at ≡ c ∷ cs) × (c.byte ≡ get_or bytes c.at 0)
    joined lt zero j ih =
        let here = rest_byte bytes from lt (sym j) in
        let same : c ≡ cell_of bytes from = cc in
        let at : c.at ≡ from = ap (λ d. d.at) same in
        let more : cs ≡ rest bytes (from + 1) = cc in
        (more ∙ ap (λ k. rest bytes (k + 1)) (sym at), subst (λ k. k < length bytes) (sym at) lt, ap (rest bytes) at ∙ e, ap (λ d. d.byte) same ∙ ap (λ k. get_or bytes k 0) (sym at))
    joined lt (suc k) j ih =
        let fits = join_within bytes from (suc k) lt j in
        let over = rest_join bytes from (suc k) lt j (λ z. cc) fits in
        ih (from + suc k) (omega arith) (over ∙ e)

    by : (from < length bytes) ⊎ (length bytes ≤ from) → ((k : ℕ) → length bytes - k ≤ n → rest bytes k ≡ c ∷ cs → (cs ≡ rest bytes (c.at + 1)) × (c.at < length bytes) × (rest bytes c.at ≡ c ∷ cs) × (c.byte ≡ get_or bytes c.at 0)) → (cs ≡ rest bytes (c.at + 1)) × (c.at < length bytes) × (rest bytes c.at ≡ c ∷ cs) × (c.byte ≡ get_or bytes c.at 0)
    by (inr past) ih = let none = rest_end bytes from past in cc
    by (inl lt) ih = joined lt (join_len (drop from bytes)) refl ih

pub rest_behind : (bytes : List ℕ) (k from : ℕ) → rest bytes (behind k from (rest bytes from)) ≡ drop k (rest bytes from)
rest_behind bytes k from = go k from (rest bytes from) refl
  where
    go : (k from : ℕ) (cs : List Cell) → rest bytes from ≡ cs → rest bytes (behind k from cs) ≡ drop k cs
    go zero from cs e = e
    go (suc k) from [] e = e
    go (suc k) from (c ∷ cs) e = go k (c.at + 1) cs (sym (rest_next (length bytes - from) bytes from c cs (omega arith) e).0)

pub Rising-behind : (k from : ℕ) (cs : List Cell) → Rising from cs → from ≤ behind k from cs
Rising-behind zero from cs r = omega arith
Rising-behind (suc k) from [] r = omega arith
Rising-behind (suc k) from (c ∷ cs) r = omega (arith, r.0, Rising-behind k (c.at + 1) cs r.1)

pub upto_behind : (k from : ℕ) (cs : List Cell) → Rising from cs → upto (behind k from cs) cs ≡ take k cs
upto_behind zero from [] r = refl
upto_behind zero from (c ∷ cs) r = ap (λ t. cond t (c ∷ upto from cs) []) (le-ltb c.at from r.0)
upto_behind (suc k) from [] r = refl
upto_behind (suc k) from (c ∷ cs) r =
    let end : ℕ = behind k (c.at + 1) cs in
    let later : c.at + 1 ≤ end = Rising-behind k (c.at + 1) cs r.1 in
    ap (λ t. cond t (c ∷ upto end cs) []) (lt-ltb c.at end (omega arith)) ∙ ap (λ l. c ∷ l) (upto_behind k (c.at + 1) cs r.1)

pub ends_behind : (k : ℕ) (c : Cell) (cs : List Cell) → end_of (c ∷ take k cs) ≡ behind k (c.at + 1) cs
ends_behind zero c cs = refl
ends_behind (suc k) c [] = refl
ends_behind (suc k) c (d ∷ cs) = ends_behind k d cs

drop_unclosed : (q limit k : ℕ) (cs : List Cell) → Unclosed q limit cs → Unclosed q limit (drop k cs)
drop_unclosed q limit zero cs h = h
drop_unclosed q limit (suc k) [] h = tt
drop_unclosed q limit (suc k) (c ∷ cs) h = drop_unclosed q limit k cs h.1

-- the part is the longest one, of so many bytes more than the first
abbrev pub IsLongest : ℕ → List ℕ → ℕ → Found → Type 0
IsLongest a bs k found.Space = (longest_part (a ∷ bs) ≡ (suc k, spellings.Blank)) ⊎ (longest_part (a ∷ bs) ≡ (suc k, spellings.Comment))
IsLongest a bs k found.LineEnd = longest_part (a ∷ bs) ≡ (suc k, spellings.LineEnd)
IsLongest a bs k found.OpenComment = (longest_part (a ∷ bs) ≡ (1, spellings.Piece Punct)) × (begins (codes "/*") (a ∷ bs) ≡ true)
IsLongest a bs k (found.Piece kind) = (longest_part (a ∷ bs) ≡ (suc k, spellings.Piece kind)) × (begins (codes "/*") (a ∷ bs) ≡ false)

-- and ends behind these
abbrev pub IsFirst : ℕ → ℕ → List Cell → Part → Type 0
IsFirst a from cs p = (k : ℕ) × (p.end ≡ behind k from cs) × IsLongest a (text_of cs) k p.found

module _ (bytes : List ℕ) (b : Before) (at : ℕ) (here : rest bytes at ≡ cell_of bytes at ∷ rest bytes (at + 1)) where
  abbrev more : List Cell
  more = rest bytes (at + 1)

  -- a part of k cells more than the first
  goes_on : (after : Before) (k end : ℕ) → end ≡ behind k (at + 1) more → cut after (suc k - 1) more ≡ cut after zero (rest bytes end)
  goes_on after k end e =
      ap (λ n. cut after n more) (let z : suc k - 1 ≡ k = omega arith in z) ∙ skip_cut after k more
      ∙ ap (cut after zero) (sym (rest_behind bytes k (at + 1)) ∙ ap (rest bytes) (sym e))

  own : (k end : ℕ) → end ≡ behind k (at + 1) more → own_cells bytes at end ≡ cell_of bytes at ∷ take k more
  own k end e =
      ap (upto end) here
      ∙ ap (λ n. upto n (cell_of bytes at ∷ more)) e
      ∙ upto_behind (suc k) at (cell_of bytes at ∷ more) (omega arith, rest_rises bytes (at + 1))

  pub own_ends : (k end : ℕ) → end ≡ behind k (at + 1) more → end_of (own_cells bytes at end) ≡ end
  own_ends k end e = ap end_of (own k end e) ∙ ends_behind k (cell_of bytes at) more ∙ sym e

  abbrev given_by : ℕ × spellings.Part → Lexed
  given_by p = by_part b (cell_of bytes at) more (λ after n. cut after n more) p

  pub found_next : (k end : ℕ) (what : Found) → end ≡ behind k (at + 1) more → IsLongest (get_or bytes at 0) (text_of more) k what → cut b zero (rest bytes at) ≡ found_gives bytes b at end what
  found_next k end what e first = ap (cut b zero) here ∙ cut_one b (cell_of bytes at) more ∙ by what first
    where
      by : (what : Found) → IsLongest (get_or bytes at 0) (text_of more) k what → by_part b (cell_of bytes at) more (λ after n. cut after n more) (longest_part (text_of (cell_of bytes at ∷ more))) ≡ found_gives bytes b at end what
      by found.Space (inl l) = ap given_by l ∙ goes_on (record b { space = true }) k end e
      by found.Space (inr l) = ap given_by l ∙ goes_on (record b { space = true }) k end e
      by found.LineEnd l = ap given_by l ∙ goes_on (record { first = true; space = true }) k end e
      by found.OpenComment (l, o) = ap given_by l ∙ ap (λ t. cond t (stop (OpenComment at)) (unless_trigraph (with_token (token b Punct (cell_of bytes at) (take 1 (cell_of bytes at ∷ more))) (cut in_line (1 - 1) more)) (first_trigraph (take 1 (cell_of bytes at ∷ more))))) o
      by (found.Piece kind) (l, o) =
          ap given_by l
          ∙ ap (λ t. cond t (stop (OpenComment at)) (unless_trigraph (with_token (token b kind (cell_of bytes at) (cell_of bytes at ∷ take k more)) (cut in_line (suc k - 1) more)) (first_trigraph (cell_of bytes at ∷ take k more)))) o
          ∙ ap (λ r. unless_trigraph (with_token (token b kind (cell_of bytes at) (cell_of bytes at ∷ take k more)) r) (first_trigraph (cell_of bytes at ∷ take k more))) (goes_on in_line k end e)
          ∙ ap (λ l. unless_trigraph (with_token (token b kind (cell_of bytes at) l) (cut in_line zero (rest bytes end))) (first_trigraph l)) (sym (own k end e))

pub unclosed_behind : (bytes : List ℕ) (q limit k from : ℕ) → Unclosed q limit (rest bytes from) → Unclosed q limit (rest bytes (behind k from (rest bytes from)))
unclosed_behind bytes q limit k from h = subst (Unclosed q limit) (sym (rest_behind bytes k from)) (drop_unclosed q limit k (rest bytes from) h)

pub marks_behind : (bytes : List ℕ) (k from end : ℕ) (marks : Marks) → end ≡ behind k from (rest bytes from) → AreMarks bytes from marks → AreMarks bytes end marks
marks_behind bytes k from end marks e h = record {
  char = subst (λ n. Unclosed 39 marks.char (rest bytes n)) (sym e) (unclosed_behind bytes 39 marks.char k from h.char);
  string = subst (λ n. Unclosed 34 marks.string (rest bytes n)) (sym e) (unclosed_behind bytes 34 marks.string k from h.string);
}
