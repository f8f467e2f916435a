-- A file that is read, as the definitions see it: the tokens of its present line that were taken, and what is left.
use Rattle.std.specs.Prelude.{◌≡◌, ◌≤◌, ◌<◌, ℕ, if◌then◌else◌, List, [], ◌∷◌, ◌++◌, length, Some, slice_get}
use Rattle.std.specs.List.{AllByRecursion}
use Rattle.cr_base.specs.declared.unit.Unit.{Unit}
use Rattle.cr_lex.specs.Lexing.{Lexed}
use Rattle.cr_lex.specs.Lexing as lexing
use Rattle.cr_lex.specs.Seen.{IsOf}
use Rattle.cr_macros.specs.Definition.{text_of}
use Rattle.cr_macros.specs.Substitution.{in_quotes, escaped}
use Rattle.cr_macros.specs.Tokens.{Text, Token, tokens_of}
use Rattle.cr_snapshot.specs.declared.known.KnownFile.{KnownFile}
use Rattle.cr_snapshot.specs.Files.{Finding, Present, Absent, Unknown, finding}
use Rattle.cr_expand.specs.Held.{IsNamed as IsNameKnown}
use Rattle.cr_preproc.specs.declared.open_file.OpenFile.{OpenFile}
use Rattle.cr_phase4.specs.declared.conditionals.OpenIf.{OpenIf}
use Rattle.cr_phase4.specs.Tasks.{Task, Nothing, ◌>>>◌}
use Rattle.cr_phase4.specs.Lines.{token_in, lines_of, fault_of, line_of}
use Rattle.cr_phase4.specs.Search.{World}
use Rattle.cr_phase4.specs.Preprocessing.{does_file, does_lines, by_line, takes_rest}
use Rattle.cr_preproc.specs.Readers.{IsReading, reading}
use Rattle.cr_preproc.specs.Seen.{AreNamed}

-- How many levels of includes may still be open in it, its path and number, the open conditionals, the run so far, the tokens
-- of the present line that were taken, and the tokens and the fault behind those.
pub record Reading : Type 0 where
  pub levels : ℕ
  pub path : Text
  pub number : ℕ
  pub open_ifs : List OpenIf
  pub run : List Token
  pub taken : List Token
  pub left : Lexed

-- the tokens of the present line that are left
abbrev pub line_left : ℕ → List lexing.Token → List Token
line_left file [] = []
line_left file (t ∷ ts) = if t.first then [] else token_in file t ∷ line_left file ts

-- the lines behind it
abbrev pub lines_behind : ℕ → List lexing.Token → List (List Token)
lines_behind file [] = []
lines_behind file (t ∷ ts) = if t.first then lines_of file (t ∷ ts) else lines_behind file ts

-- A file is read on, where these tokens of the present line were taken.
abbrev pub reads_behind : World → Unit → Reading → List Token → Task Nothing
reads_behind w u r [] =
    does_lines w u (does_file w u r.levels) r.path (fault_of r.number r.left.fault) (lines_of r.number r.left.tokens) r.open_ifs r.run
reads_behind w u r (t ∷ ts) =
    let line = (t ∷ ts) ++ line_left r.number r.left.tokens in
    takes_rest r.path r.open_ifs r.run (t ∷ ts) (line_left r.number r.left.tokens)
    >>> λ d. by_line w u (does_file w u r.levels) r.path r.open_ifs r.run line (line_of line)
    >>> λ a. does_lines w u (does_file w u r.levels) r.path (fault_of r.number r.left.fault) (lines_behind r.number r.left.tokens) a.open_ifs a.run

abbrev pub reads_file : World → Unit → Reading → Task Nothing
reads_file w u r = reads_behind w u r r.taken

-- the bytes that are known to be at a path
abbrev pub bytes_of : Finding → Text
bytes_of (Present n bytes) = bytes
bytes_of Absent = []
bytes_of Unknown = []

abbrev pub bytes_at : List KnownFile → Text → Text
bytes_at files path = bytes_of (finding path files)

-- an open file, where the table of names has these texts and these files are known
abbrev pub reading_of : List Text → List KnownFile → OpenFile → Reading
reading_of names files f = record {
  levels = f.levels;
  path = f.path;
  number = f.number.0;
  open_ifs = f.open_ifs;
  run = tokens_of names f.run.items;
  taken = tokens_of names f.line.items;
  left = reading names (bytes_at files f.path) f.reader;
}

-- The file is known under its number, it is read in its bytes, and the table of names has all names that it holds.
pub record IsOpen (names : List Text) (files : List KnownFile) (f : OpenFile) : Type 0 where
  pub bytes : Text
  pub found : finding f.path files ≡ Present f.number.0 bytes
  pub small : length bytes ≤ 16777216
  pub number : f.number.0 < length files
  pub known : slice_get files f.number.0 ≡ Some (record { path = f.path; found = Some bytes })
  pub reading : IsReading names bytes f.reader
  pub reader : f.reader.file ≡ f.number
  pub literal : IsNameKnown names f.literal
  pub literal_text : text_of names f.literal ≡ in_quotes (escaped f.path)
  pub run : AreNamed names f.run.items
  pub line : AllByRecursion (IsOf f.number names) f.line.items
