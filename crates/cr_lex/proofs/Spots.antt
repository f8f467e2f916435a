-- A place behind a part.
use Rattle.std.proofs.Common.{◌≡◌, ◌∙◌, ◌<◌, ◌≤◌, ℕ, zero, Bool, true, false, List, [], ◌∷◌, None, length, refl, ap, sym, subst, arith}
use Rattle.cr_lex.specs.Joins.{Cell}
use Rattle.cr_lex.specs.Lexing.{Before, Token, token, with_token, unless_trigraph, first_trigraph, cut, lexed}
use Rattle.cr_lex.specs.Scanning.{AreMarks, Unclosed, cell_of, own_cells}
use Rattle.cr_lex.specs.Joins.{rest}
use Rattle.cr_lex.specs.Standing.{IsSpot, left_at, given, in_line}
use Rattle.cr_lex.specs.declared.spot.Own.{Own}
use Rattle.cr_lex.specs.declared.spot.Ahead.{Ahead}
use Rattle.cr_lex.specs.declared.spot.Ahead.TheVariants as ahead
use Rattle.cr_lex.specs.declared.part.Marks.{Marks}
use Rattle.cr_lex.specs.declared.spot.Spot.{Spot}

pub moved : (bytes : List ℕ) (s r : Spot) (at end : ℕ) (first : Bool) (marks : Marks) → r ≡ record s { at = end; first = first; space = true; marks = marks }
    → IsSpot bytes s → s.at ≤ at → (at < end) × (end ≤ length bytes) → AreMarks bytes end marks → IsSpot bytes r
moved bytes s r at end first marks e h from within m =
    subst (IsSpot bytes) (sym e) (record { within = within.1; counted = omega (arith, h.counted, within.0); line = h.line; marks = m })

no_marks : (q : ℕ) (cs : List Cell) → Unclosed q 0 cs
no_marks q [] = tt
no_marks q (c ∷ cs) = ((λ h e. absurd (omega arith)), no_marks q cs)

pub at_start-is : (bytes : List ℕ) (s : Spot) → s ≡ record { at = 0; counted = 0; line = 1; first = true; space = true; marks = record { char = 0; string = 0 } } → IsSpot bytes s
at_start-is bytes s e = subst (IsSpot bytes) (sym e) (record {
  within = omega arith;
  counted = omega arith;
  line = refl;
  marks = record { char = no_marks 39 (rest bytes 0); string = no_marks 34 (rest bytes 0) };
})

pub at_start-gives : (bytes : List ℕ) (s : Spot) → s ≡ record { at = 0; counted = 0; line = 1; first = true; space = true; marks = record { char = 0; string = 0 } } → left_at bytes s ≡ lexed bytes
unfolding left_at lexed rest
at_start-gives bytes s e = ap (λ s. left_at bytes s) e

-- a token that comes next, where no trigraph is in it
pub token-gives : (bytes : List ℕ) (s after : Spot) (b : Before) (own : Own) (next : Ahead) (t : Token) (line : ℕ)
    → left_at bytes s ≡ given bytes b next → next ≡ ahead.Token own → first_trigraph (own_cells bytes own.at own.end) ≡ None
    → t ≡ token b own.kind (cell_of bytes own.at) (own_cells bytes own.at own.end)
    → after ≡ record { at = own.end; counted = own.at; line = line; first = false; space = false; marks = own.marks }
    → left_at bytes s ≡ with_token t (left_at bytes after)
unfolding left_at
token-gives bytes s after b own next t line g is none seen e =
    g ∙ ap (given bytes b) is
    ∙ ap (unless_trigraph (with_token (token b own.kind (cell_of bytes own.at) (own_cells bytes own.at own.end)) (cut in_line zero (rest bytes own.end)))) none
    ∙ ap (λ t. with_token t (cut in_line zero (rest bytes own.end))) (sym seen)
    ∙ ap (λ s. with_token t (left_at bytes s)) (sym e)

pub nothing_known : (bytes : List ℕ) (at : ℕ) (marks : Marks) → marks ≡ record { char = 0; string = 0 } → AreMarks bytes at marks
nothing_known bytes at marks e = subst (AreMarks bytes at) (sym e) (record { char = no_marks 39 (rest bytes at); string = no_marks 34 (rest bytes at) })
