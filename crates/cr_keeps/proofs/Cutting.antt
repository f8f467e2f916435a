-- A token of a file whose text is an identifier is one.
use Rattle.std.proofs.Common.{◌≡◌, ◌⊎◌, inl, inr, ℕ, zero, suc, ◌-◌, ◌<◌, ◌≤◌, Bool, true, false, cond, List, [], ◌∷◌, length, take, refl, ap, sym, ◌∙◌, Some, None, Option, arith}
use Rattle.std.specs.Prelude.{codes, option_map}
use Rattle.std.specs.List.{AllByRecursion}
use Rattle.std.proofs.lemmas.Bool.Decides.{leb_tells}
use Rattle.cr_base.specs.Names.{is_identifier}
use Rattle.cr_base.specs.declared.token.PpKind.{PpKind}
use Rattle.cr_base.specs.declared.token.PpKind.TheVariants.{Ident, Number, Char, Str, Punct, Stray}
use Rattle.cr_lex.specs.Spellings.{Part, Piece, Blank, Comment, LineEnd, part_of, token_kind, is_blank, is_line_end, is_comment, is_number, is_char, is_string, is_punctuator}
use Rattle.cr_lex.specs.Joins.{Cell, text_of, begins, cells}
use Rattle.cr_lex.specs.Lexing.{Lexed, OpenComment, Before, at_start, or_shorter, longest, longest_part, by_part, token, with_token, unless_trigraph, first_trigraph, stop, cut, lexed}
use Rattle.cr_lex.specs.Lexing as lexing

abbrev pub IsCut : lexing.Token → Type 0
IsCut t = is_identifier t.text ≡ true → t.kind ≡ Ident

-- the longest front that is a part, or a stray byte where none is
abbrev Found : ℕ → List ℕ → ℕ × Part → Type 0
Found n text p = (part_of (take p.0 text) ≡ Some p.1) ⊎ ((p.0 ≡ 1) × (p.1 ≡ Piece Stray) × ((k : ℕ) → 0 < k → k ≤ n → part_of (take k text) ≡ None))

longest_found : (n : ℕ) (text : List ℕ) → Found n text (longest n text)
unfolding longest
longest_found zero text = inr (refl, refl, λ k a b. absurd (omega (arith, a, b)))
longest_found (suc n) text = go (part_of (take (suc n) text)) refl (longest n text) (longest_found n text) where
  go : (o : Option Part) → part_of (take (suc n) text) ≡ o → (p : ℕ × Part) → Found n text p → Found (suc n) text (or_shorter (suc n) p o)
  go None q p (inl h) = inl h
  go None q p (inr h) = inr (h.0, h.1, λ k a b. last k a b)
    where
      last : (k : ℕ) → 0 < k → k ≤ suc n → part_of (take k text) ≡ None
      last k a b = elim (leb_tells k n) [ inl w ↦ h.2 k a w.1 | inr e ↦ (let same : k ≡ suc n = omega (arith, e.1, b) in ap (λ i. part_of (take i text)) same ∙ q) ]
  go (Some part) q p h = inl q

identifier_is : (text : List ℕ) (kind : PpKind) → is_identifier text ≡ true → part_of text ≡ Some (Piece kind) → kind ≡ Ident
unfolding part_of token_kind
identifier_is text kind i = by (is_blank text) (is_line_end text) (is_comment text) (is_identifier text) i
  where
    by : (a b c d : Bool) → d ≡ true
        → cond a (Some Blank) (cond b (Some LineEnd) (cond c (Some Comment) (option_map Piece (cond d (Some Ident) (cond (is_number text) (Some Number) (cond (is_char text) (Some Char) (cond (is_string text) (Some Str) (cond (is_punctuator text) (Some Punct) None)))))))) ≡ Some (Piece kind)
        → kind ≡ Ident
    by true b c d j h = cc
    by false true c d j h = cc
    by false false true d j h = cc
    by false false false true j h = let e : Piece Ident ≡ Piece kind = cc in cc
    by false false false false j h = cc

identifier_is_part : (text : List ℕ) → is_identifier text ≡ true → part_of text ≡ None → ⊥
unfolding part_of token_kind
identifier_is_part text i = by (is_blank text) (is_line_end text) (is_comment text) (is_identifier text) i
  where
    by : (a b c d : Bool) → d ≡ true
        → cond a (Some Blank) (cond b (Some LineEnd) (cond c (Some Comment) (option_map Piece (cond d (Some Ident) (cond (is_number text) (Some Number) (cond (is_char text) (Some Char) (cond (is_string text) (Some Str) (cond (is_punctuator text) (Some Punct) None)))))))) ≡ None
        → ⊥
    by true b c d j h = cc
    by false true c d j h = cc
    by false false true d j h = cc
    by false false false true j h = cc
    by false false false false j h = cc

pub text_take : (n : ℕ) (cs : List Cell) → text_of (take n cs) ≡ take n (text_of cs)
text_take zero cs = refl
text_take (suc n) [] = refl
text_take (suc n) (c ∷ cs) = ap (λ l. c.byte ∷ l) (text_take n cs)

cut_by : (n : ℕ) (text own : List ℕ) (kind : PpKind) → own ≡ take n text → 0 < length text → Found (length text) text (n, Piece kind) → is_identifier own ≡ true → kind ≡ Ident
cut_by n text own kind e w (inl h) i = identifier_is (take n text) kind (ap is_identifier (sym e) ∙ i) h
cut_by n text own kind e w (inr h) i = absurd (identifier_is_part (take n text) (ap is_identifier (sym e) ∙ i) (ap (λ k. part_of (take k text)) h.0 ∙ h.2 1 (omega arith) w))

cut_if : (b : Bool) (l m : Lexed) → AllByRecursion IsCut l.tokens → AllByRecursion IsCut m.tokens → AllByRecursion IsCut (cond b l m).tokens
cut_if true l m h k = h
cut_if false l m h k = k

cut_unless : (l : Lexed) (o : Option ℕ) → AllByRecursion IsCut l.tokens → AllByRecursion IsCut (unless_trigraph l o).tokens
cut_unless l None h = h
cut_unless l (Some at) h = tt

all_cut : (cs : List Cell) (before : Before) (skip : ℕ) → AllByRecursion IsCut (cut before skip cs).tokens
unfolding cut
all_cut [] before skip = tt
all_cut (c ∷ cs) before (suc skip) = all_cut cs before skip
all_cut (c ∷ cs) before zero = go (longest_part (text_of (c ∷ cs))) (longest_found (length (text_of (c ∷ cs))) (text_of (c ∷ cs))) (all_cut cs) where
  go : (p : ℕ × Part) → Found (length (text_of (c ∷ cs))) (text_of (c ∷ cs)) p → ((b : Before) (n : ℕ) → AllByRecursion IsCut (cut b n cs).tokens) → AllByRecursion IsCut (by_part before c cs (λ after n. cut after n cs) p).tokens
  go (n, Blank) h k = k (record before { space = true }) (n - 1)
  go (n, Comment) h k = k (record before { space = true }) (n - 1)
  go (n, LineEnd) h k = k (record { first = true; space = true }) (n - 1)
  go (n, Piece kind) h k =
      cut_if (begins (codes "/*") (text_of (c ∷ cs))) (stop (OpenComment c.at)) (unless_trigraph (with_token (token before kind c (take n (c ∷ cs))) (cut (record { first = false; space = false }) (n - 1) cs)) (first_trigraph (take n (c ∷ cs)))) tt
      (cut_unless (with_token (token before kind c (take n (c ∷ cs))) (cut (record { first = false; space = false }) (n - 1) cs)) (first_trigraph (take n (c ∷ cs)))
      (cut_by n (text_of (c ∷ cs)) (text_of (take n (c ∷ cs))) kind (text_take n (c ∷ cs)) (let w : 0 < suc (length (text_of cs)) = omega arith in w) h, k (record { first = false; space = false }) (n - 1)))

-- an identifier is cut as one
pub identifiers_are_cut : (bytes : List ℕ) → AllByRecursion IsCut (lexed bytes).tokens
unfolding lexed
identifiers_are_cut bytes = all_cut (cells zero 0 1 bytes) at_start zero
