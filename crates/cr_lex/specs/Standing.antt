-- Where a lexer stands in a file, and what it still gives.
use Rattle.std.specs.Prelude.{ℕ, zero, ◌≡◌, ◌<◌, ◌≤◌, false, true, List, [], length, drop, None}
use Rattle.cr_lex.specs.Joins.{join_len}
use Rattle.cr_lex.specs.Lexing.{Before, Lexed, cut, stop, token, with_token, unless_trigraph, first_trigraph, end_of}
use Rattle.cr_lex.specs.Lexing as lexing
use Rattle.cr_lex.specs.Scanning.{cell_of, own_cells, AreMarks}
use Rattle.cr_lex.specs.Joins.{rest, line_at}
use Rattle.cr_lex.specs.declared.part.Found.{Found}
use Rattle.cr_lex.specs.declared.part.Found.TheVariants as found
use Rattle.cr_lex.specs.declared.spot.Spot.{Spot}
use Rattle.cr_lex.specs.declared.spot.Own.{Own}
use Rattle.cr_lex.specs.declared.spot.Ahead.{Ahead}
use Rattle.cr_lex.specs.declared.spot.Ahead.TheVariants as ahead

abbrev pub before : Spot → Before
before s = record { first = s.first; space = s.space }

-- the place is in the bytes; its line's number is that of an offset before it
pub record IsSpot (bytes : List ℕ) (s : Spot) : Type 0 where
  pub within : s.at ≤ length bytes
  pub counted : s.counted ≤ s.at
  pub line : s.line ≡ line_at bytes s.counted
  pub marks : AreMarks bytes s.at s.marks

-- what is still given from a place on
unfoldable pub left_at : List ℕ → Spot → Lexed
left_at bytes s = cut (before s) zero (rest bytes s.at)

abbrev pub in_line : Before
in_line = record { first = false; space = false }

-- a token's bytes, and the token
pub record IsOwn (bytes : List ℕ) (start : ℕ) (own : Own) : Type 0 where
  pub from : start ≤ own.at
  pub some : own.at < own.end
  pub within : own.end ≤ length bytes
  pub ends : end_of (own_cells bytes own.at own.end) ≡ own.end
  pub marks : AreMarks bytes own.end own.marks

-- what is cut where this part, which ends at an offset, begins with a byte
abbrev pub found_gives : List ℕ → Before → ℕ → ℕ → Found → Lexed
found_gives bytes b at end found.Space = cut (record b { space = true }) zero (rest bytes end)
found_gives bytes b at end found.LineEnd = cut (record { first = true; space = true }) zero (rest bytes end)
found_gives bytes b at end found.OpenComment = stop (lexing.OpenComment at)
found_gives bytes b at end (found.Piece kind) =
    unless_trigraph
    (with_token (token b kind (cell_of bytes at) (own_cells bytes at end)) (cut in_line zero (rest bytes end)))
    (first_trigraph (own_cells bytes at end))

-- what is given where this comes next
abbrev pub given : List ℕ → Before → Ahead → Lexed
given bytes b ahead.End = record { tokens = []; fault = None }
given bytes b (ahead.Open at) = stop (lexing.OpenComment at)
given bytes b (ahead.Token own) =
    unless_trigraph
    (with_token
    (token b own.kind (cell_of bytes own.at) (own_cells bytes own.at own.end))
    (cut in_line zero (rest bytes own.end)))
    (first_trigraph (own_cells bytes own.at own.end))

-- what stands next
abbrev pub IsNext : List ℕ → ℕ → Spot → Ahead → Type 0
IsNext bytes from s ahead.End = IsSpot bytes s
IsNext bytes from s (ahead.Open at) = at < length bytes
IsNext bytes from s (ahead.Token own) =
    IsOwn bytes from own × (s.counted ≤ own.at) × (s.line ≡ line_at bytes s.counted)

-- no join begins between two offsets
abbrev pub IsPlain : List ℕ → ℕ → ℕ → Type 0
IsPlain bytes from end = (i : ℕ) → from ≤ i → i < end → join_len (drop i bytes) ≡ 0
