-- A file as lines of preprocessing tokens, and what a line is (C11 6.10p1, p2).
use Rattle.std.specs.Prelude.{ℕ, Bool, false, if◌then◌else◌, List, [], ◌∷◌, bytes_eq, codes, Option, Some, None}
use Rattle.cr_base.specs.declared.token.Place.{Place}
use Rattle.cr_base.specs.declared.token.Origin.TheVariants.{At}
use Rattle.cr_base.specs.declared.cause.IllCause.TheVariants as cause
use Rattle.cr_lex.specs.Lexing.{Fault, OpenComment, Trigraph, lexed}
use Rattle.cr_lex.specs.Lexing as lexing
use Rattle.cr_macros.specs.Tokens.{Text, Token, is_ident}
use Rattle.cr_macros.specs.Substitution.{is_hash}
use Rattle.cr_phase4.specs.declared.conditionals.Word.{Word}
use Rattle.cr_phase4.specs.declared.conditionals.Word.TheVariants.{If, Ifdef, Ifndef, Elif, Else, Endif}
use Rattle.cr_phase4.specs.Tasks.{End, Ill}

abbrev pub place_in : ℕ → ℕ → Place
place_in file offset = record { path = record { 0 = file }; offset = offset }

-- a token of the file with this number
abbrev pub token_in : ℕ → lexing.Token → Token
token_in file t = record {
  kind = t.kind;
  text = t.text;
  origin = At (place_in file t.at);
  site = place_in file t.at;
  line = t.line;
  end = t.end;
  space = t.space;
  first = t.first;
  joined = t.joined;
  hide = [];
}

abbrev pub begins_line : List lexing.Token → Bool
begins_line [] = false
begins_line (t ∷ ts) = t.first

-- t in front of the first line
abbrev pub into_line : Token → List (List Token) → List (List Token)
into_line t [] = (t ∷ []) ∷ []
into_line t (line ∷ lines) = (t ∷ line) ∷ lines

-- the tokens by lines, of which each begins with a token that is the first of its line
abbrev pub lines_of : ℕ → List lexing.Token → List (List Token)
lines_of file [] = []
lines_of file (t ∷ ts) = if begins_line ts then (token_in file t ∷ []) ∷ lines_of file ts else into_line (token_in file t) (lines_of file ts)

abbrev pub fault_of : ℕ → Option Fault → Option End
fault_of file None = None
fault_of file (Some (OpenComment at)) = Some (Ill cause.OpenComment (place_in file at))
fault_of file (Some (Trigraph at)) = Some (Ill cause.Trigraph (place_in file at))

-- lines of tokens, and the lexical fault behind them
pub record File : Type 0 where
  pub lines : List (List Token)
  pub fault : Option End

abbrev pub file_of : ℕ → List ℕ → File
file_of file bytes = record { lines = lines_of file (lexed bytes).tokens; fault = fault_of file (lexed bytes).fault }

-- the word of a conditional directive (C11 6.10.1)
abbrev pub word_of : Text → Option Word
word_of text =
    if bytes_eq text (codes "if") then Some If
    else if bytes_eq text (codes "ifdef") then Some Ifdef
    else if bytes_eq text (codes "ifndef") then Some Ifndef
    else if bytes_eq text (codes "elif") then Some Elif
    else if bytes_eq text (codes "else") then Some Else
    else if bytes_eq text (codes "endif") then Some Endif
    else None

-- What a line is. A directive has the place of its `#`, and its word with the tokens behind it.
pub data Line : Type 0 where
  Plain : Line
  Conditional : Place → Token → Word → List Token → Line
  Directive : Place → Token → List Token → Line
  -- `#` alone (C11 6.10.7)
  Empty : Line
  -- a `#` behind which no word stands
  Wordless : Place → Line

abbrev pub by_word : Place → Token → List Token → Option Word → Line
by_word hash word rest None = Directive hash word rest
by_word hash word rest (Some w) = Conditional hash word w rest

abbrev pub behind_hash : Place → List Token → Line
behind_hash hash [] = Empty
behind_hash hash (word ∷ rest) = if is_ident word.kind then by_word hash word rest (word_of word.text) else Wordless hash

-- a line whose first token is `#` is a directive
abbrev pub line_of : List Token → Line
line_of [] = Plain
line_of (t ∷ ts) = if is_hash t then behind_hash t.site ts else Plain
