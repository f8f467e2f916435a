-- What a reader of a file still gives.
use Rattle.std.specs.Prelude.{◌≡◌, Bool, true, List, [], Option, Some, None}
use Rattle.cr_base.specs.declared.token.PpTok.{PpTok}
use Rattle.cr_base.specs.declared.token.PathNo.{PathNo}
use Rattle.cr_lex.specs.Lexing.{Lexed, Fault, with_token, stop}
use Rattle.cr_lex.specs.Lexers.{IsIn, left}
use Rattle.cr_lex.specs.Seen.{seen, IsOf, fault_in}
use Rattle.cr_lex.specs.declared.fault.LexStep.{LexStep}
use Rattle.cr_lex.specs.declared.fault.LexStep.TheVariants as step
use Rattle.cr_macros.specs.Tokens.{Text}
use Rattle.cr_preproc.specs.declared.reader.Reader.{Reader}
use Rattle.cr_preproc.specs.declared.reader.Coming.{Coming}
use Rattle.cr_preproc.specs.declared.reader.Coming.TheVariants as coming

-- what comes next, before what the lexer has left
abbrev pub before : List Text → Lexed → LexStep → Lexed
before names rest (step.Token t) = with_token (seen names t) rest
before names rest step.End = rest
before names rest (step.Fault f) = rest

-- the tokens up to the first fault that a reader still gives, and that fault
abbrev pub reading : List Text → Text → Reader → Lexed
reading names bytes r = before names (left bytes r.lexer) r.ahead

-- what comes next is of the file, and nothing is left behind the end or a fault
abbrev pub IsNext : PathNo → List Text → Lexed → LexStep → Type 0
IsNext file names rest (step.Token t) = IsOf file names t
IsNext file names rest step.End = rest ≡ record { tokens = []; fault = None }
IsNext file names rest (step.Fault f) = (s : Fault) × (rest ≡ stop s) × (f ≡ fault_in file s)

pub record IsReading (names : List Text) (bytes : Text) (r : Reader) : Type 0 where
  pub within : IsIn bytes r.lexer
  pub file : r.lexer.file ≡ r.file
  pub next : IsNext r.file names (left bytes r.lexer) r.ahead

-- What comes is the first of what the reader still gives: a token, the end, or a fault.
abbrev pub IsComing : List Text → Text → Reader → Coming → Type 0
IsComing names bytes r coming.Token = (t : PpTok) × (rest : Lexed) × (r.ahead ≡ step.Token t) × (reading names bytes r ≡ with_token (seen names t) rest)
IsComing names bytes r coming.End = reading names bytes r ≡ record { tokens = []; fault = None }
IsComing names bytes r (coming.Fault f) = (s : Fault) × (reading names bytes r ≡ stop s) × (f ≡ fault_in r.file s)

abbrev pub first_ahead : LexStep → Bool
first_ahead (step.Token t) = t.first
first_ahead step.End = true
first_ahead (step.Fault f) = true

abbrev pub is_at_line_end : Reader → Bool
is_at_line_end r = first_ahead r.ahead

-- The first of what was left is taken, with what is left then; or no token was left, and nothing changes.
abbrev pub IsTaken : List Text → List Text → Lexed → Lexed → Option PpTok → Type 0
IsTaken names more old new (Some t) = old ≡ with_token (seen names t) new
IsTaken names more old new None = (old.tokens ≡ []) × (new ≡ old) × (more ≡ names)

-- a token that is taken is of the file, and the table of names has its text
abbrev pub IsOfFile : PathNo → List Text → Option PpTok → Type 0
IsOfFile file names (Some t) = IsOf file names t
IsOfFile file names None = Unit {0}
