-- What the calls of an open file tell and do, as the definitions see it.
use Rattle.std.specs.Prelude.{◌≡◌, ◌⊎◌, ℕ, Bool, true, false, not, ◌&&◌, List, [], ◌∷◌, ◌++◌, None}
use Rattle.cr_lex.specs.Lexing.{Lexed, Fault, with_token, stop}
use Rattle.cr_lex.specs.Lexing as lexing
use Rattle.cr_lex.specs.Seen.{fault_in}
use Rattle.cr_macros.specs.Tokens.{Text}
use Rattle.cr_preproc.specs.declared.open_file.OpenFile.{OpenFile}
use Rattle.cr_preproc.specs.declared.reader.Coming.{Coming}
use Rattle.cr_preproc.specs.declared.reader.Coming.TheVariants as coming
use Rattle.cr_phase4.specs.Lines.{token_in}
use Rattle.cr_preproc.specs.Readers.{is_at_line_end}
use Rattle.cr_preproc.specs.OpenFiles.{Reading, line_left}

abbrev pub is_empty : {A : Type 0} → List A → Bool
is_empty [] = true
is_empty (x ∷ xs) = false

-- whether a line was begun, and what comes next is not of it
abbrev pub has_line : OpenFile → Bool
has_line f = not (is_empty f.line.items) && is_at_line_end f.reader

-- a file of which nothing is read yet
abbrev pub begins : ℕ → Text → ℕ → Lexed → Reading
begins levels path number left = record { levels = levels; path = path; number = number; open_ifs = []; run = []; taken = []; left = left }

-- A line was begun, and all its tokens are taken.
abbrev pub HasLine : Reading → Type 0
HasLine r = ¬ (r.taken ≡ []) × (line_left r.number r.left.tokens ≡ [])

-- The next token, if there is one, is of the present line; and where there is none, no line was begun.
abbrev pub LacksLine : Reading → Type 0
LacksLine r = ((t : lexing.Token) (rest : Lexed) → r.left ≡ with_token t rest → (r.taken ≡ []) ⊎ (t.first ≡ false)) × (r.left.tokens ≡ [] → r.taken ≡ [])

abbrev pub TellsLine : Reading → Bool → Type 0
TellsLine r true = HasLine r
TellsLine r false = LacksLine r

-- What comes is the first of what is left: a token, the end, or a fault.
abbrev pub TellsNext : Reading → Coming → Type 0
TellsNext r coming.Token = (t : lexing.Token) × (rest : Lexed) × (r.left ≡ with_token t rest)
TellsNext r coming.End = r.left ≡ record { tokens = []; fault = None }
TellsNext r (coming.Fault f) = (s : Fault) × (r.left ≡ stop s) × (f ≡ fault_in (record { 0 = r.number }) s)

-- The first token that was left, if there was one, is taken into the present line.
abbrev pub Takes : Reading → Reading → Type 0
Takes old new = (t : lexing.Token) (rest : Lexed) → old.left ≡ with_token t rest → new ≡ record old { taken = old.taken ++ token_in old.number t ∷ []; left = rest }
