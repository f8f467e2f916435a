-- The cut of a file into white space, comments and preprocessing tokens, each the longest one (C11 5.1.1.2,
-- phases 1 to 3; 6.4p4), up to the first fault.
use Rattle.std.specs.Prelude.{ℕ, zero, suc, ◌+◌, ◌-◌, Bool, true, false, not, ◌==◌, List, [], ◌∷◌, length, take, codes, Option, Some, None, if◌then◌else◌}
use Rattle.cr_base.specs.declared.token.PpKind.{PpKind}
use Rattle.cr_base.specs.declared.token.PpKind.TheVariants.{Stray}
use Rattle.cr_lex.specs.Spellings.{Part, Blank, LineEnd, Comment, Piece, part_of}
use Rattle.cr_lex.specs.Joins.{Cell, cells, text_of, begins}

-- A token: its spelling without joins, the offsets of its first byte and behind its last one, its line, and
-- whether white space or a line's start is directly before it, it is the first of its line, a join is inside it.
pub record Token : Type 0 where
  pub kind : PpKind
  pub text : List ℕ
  pub at : ℕ
  pub end : ℕ
  pub line : ℕ
  pub space : Bool
  pub first : Bool
  pub joined : Bool

-- `/*` without an end, and a trigraph outside comments, each at an offset (own rules of this project)
pub data Fault : Type 0 where
  OpenComment : ℕ → Fault
  Trigraph : ℕ → Fault

-- the tokens up to the first fault, and that fault
pub record Lexed : Type 0 where
  pub tokens : List Token
  pub fault : Option Fault

abbrev pub or_shorter : ℕ → ℕ × Part → Option Part → ℕ × Part
or_shorter n shorter None = shorter
or_shorter n shorter (Some part) = (n, part)

-- the longest front of a text that is a part, of those of at most n bytes; where none is one, the first byte is stray
unfoldable pub longest : ℕ → List ℕ → ℕ × Part
longest zero text = (1, Piece Stray)
longest (suc n) text = or_shorter (suc n) (longest n text) (part_of (take (suc n) text))

-- the length of the longest front of a text that is a part, and this part (C11 6.4p4)
abbrev pub longest_part : List ℕ → ℕ × Part
longest_part text = longest (length text) text

-- where the next part would stand: at the beginning of a line, directly behind white space
pub record Before : Type 0 where
  pub first : Bool
  pub space : Bool

-- the offset behind the last of some cells
abbrev pub end_of : List Cell → ℕ
end_of [] = 0
end_of (c ∷ []) = c.at + 1
end_of (c ∷ d ∷ cs) = end_of (d ∷ cs)

-- the token that begins with a cell, and has these cells in all
abbrev pub token : Before → PpKind → Cell → List Cell → Token
token before kind c own = record {
  kind = kind;
  text = text_of own;
  at = c.at;
  end = end_of own;
  line = c.line;
  space = before.space;
  first = before.first;
  joined = not (end_of own == c.at + length own);
}

-- the offset of the first trigraph that begins in some cells
abbrev pub first_trigraph : List Cell → Option ℕ
first_trigraph [] = None
first_trigraph (c ∷ cs) = if c.trigraph then Some c.at else first_trigraph cs

abbrev pub stop : Fault → Lexed
stop fault = record { tokens = []; fault = Some fault }

abbrev pub with_token : Token → Lexed → Lexed
with_token t rest = record { tokens = t ∷ rest.tokens; fault = rest.fault }

abbrev pub unless_trigraph : Lexed → Option ℕ → Lexed
unless_trigraph lexed None = lexed
unless_trigraph lexed (Some at) = stop (Trigraph at)

-- A token with the cells `own`, which begins at the first of the cells c ∷ cs, unless there is a fault in its place.
abbrev pub piece : Before → PpKind → Cell → List Cell → List Cell → Lexed → Lexed
piece before kind c cs own rest =
    if begins (codes "/*") (text_of (c ∷ cs)) then stop (OpenComment c.at)
    else unless_trigraph (with_token (token before kind c own) rest) (first_trigraph own)

-- What cells give whose first part this is; `rest` is what is given behind a part, by what stands before and how
-- many more cells the part has.
abbrev pub by_part : Before → Cell → List Cell → (Before → ℕ → Lexed) → ℕ × Part → Lexed
by_part before c cs rest (n, Blank) = rest (record before { space = true }) (n - 1)
by_part before c cs rest (n, Comment) = rest (record before { space = true }) (n - 1)
by_part before c cs rest (n, LineEnd) = rest (record { first = true; space = true }) (n - 1)
by_part before c cs rest (n, Piece kind) = piece before kind c cs (take n (c ∷ cs)) (rest (record { first = false; space = false }) (n - 1))

-- The cells, cut into parts, each the longest one. The first `skip` cells belong to the part before.
unfoldable pub cut : Before → ℕ → List Cell → Lexed
cut before skip [] = record { tokens = []; fault = None }
cut before (suc skip) (c ∷ cs) = cut before skip cs
cut before zero (c ∷ cs) = by_part before c cs (λ after n. cut after n cs) (longest_part (text_of (c ∷ cs)))

-- before the first byte of a file
abbrev pub at_start : Before
at_start = record { first = true; space = true }

-- the tokens of a file up to its first fault, and that fault
unfoldable pub lexed : List ℕ → Lexed
lexed bytes = cut at_start zero (cells zero 0 1 bytes)
