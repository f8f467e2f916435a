-- What a lexer still gives.
use Rattle.std.specs.Prelude.{ℕ, List}
use Rattle.cr_lex.specs.Lexing.{Lexed}
use Rattle.cr_lex.specs.Standing.{IsSpot, left_at}
use Rattle.cr_lex.specs.declared.lexer.Lexer.{Lexer}

-- The lexer was at the beginning of these bytes, and went on in them alone.
unfoldable pub IsIn : List ℕ → Lexer → Type 0
IsIn bytes l = IsSpot bytes l.spot

-- the tokens that it still gives up to the first fault, and that fault
unfoldable pub left : List ℕ → Lexer → Lexed
left bytes l = left_at bytes l.spot
