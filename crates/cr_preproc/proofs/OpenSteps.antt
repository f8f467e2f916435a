-- What is left of an open file, step by step, by what its calls tell.
use Rattle.std.proofs.Common.{◌≡◌, ℕ, [], ◌∷◌, ap, refl, sym, ◌∙◌, Option}
use Rattle.cr_base.specs.declared.unit.Unit.{Unit}
use Rattle.cr_lex.specs.Lexing.{Lexed, Fault, with_token, lexed}
use Rattle.cr_lex.specs.Lexing as lexing
use Rattle.cr_macros.specs.Tokens.{Text}
use Rattle.cr_phase4.specs.Tasks.{State, Took, ◌>>>◌, reads, go_on}
use Rattle.cr_phase4.specs.Lines.{file_of, fault_of, line_of}
use Rattle.cr_phase4.specs.Search.{World}
use Rattle.cr_phase4.specs.Runs.{inside}
use Rattle.cr_phase4.specs.Preprocessing.{does_file, does_lines, by_line, run_with, at_end}
use Rattle.cr_preproc.specs.OpenFiles.{Reading, reads_behind, reads_file}
use Rattle.cr_preproc.specs.OpenFileSteps.{begins, HasLine, LacksLine, Takes}
use Rattle.cr_preproc.proofs.ReadingOn.{takes_one, line_done, file_done}

-- A file that was just opened does all its lines.
pub file_begins : (w : World) (u : Unit) (levels : ℕ) (path : Text) (number : ℕ) (bytes : Text) (s : State)
    → reads_file w u (begins levels path number (lexed bytes)) s
    ≡ does_lines w u (does_file w u levels) path (file_of number bytes).fault (file_of number bytes).lines [] [] s
file_begins w u levels path number bytes s = refl

-- The next token is taken.
pub file_takes : (w : World) (u : Unit) (r new : Reading) (t : lexing.Token) (rest : Lexed) (s : State) → LacksLine r → r.left ≡ with_token t rest → Takes r new
    → reads_file w u r s ≡ (inside r.path (run_with r.open_ifs r.run r.taken) (reads 1 (Took ∷ [])) >>> λ d. reads_file w u new) s
file_takes w u r new t rest s lacks e takes =
    takes_one w u r r.taken t rest s e (lacks.0 t rest e)
    ∙ ap (λ n. go_on (inside r.path (run_with r.open_ifs r.run r.taken) (reads 1 (Took ∷ [])) s) (λ d. reads_file w u n)) (sym (takes t rest e))

-- The present line is carried out.
pub file_line : (w : World) (u : Unit) (r : Reading) (s : State) → HasLine r
    → reads_file w u r s
    ≡ (by_line w u (does_file w u r.levels) r.path r.open_ifs r.run r.taken (line_of r.taken) >>> λ a. reads_file w u (record r { open_ifs = a.open_ifs; run = a.run; taken = [] })) s
file_line w u r s has = line_done w u r r.taken s has.0 has.1

-- The file is at its end.
pub file_ends : (w : World) (u : Unit) (r : Reading) (f : Option Fault) (s : State) → LacksLine r → r.left ≡ record { tokens = []; fault = f }
    → reads_file w u r s ≡ at_end r.path r.run (fault_of r.number f) r.open_ifs s
file_ends w u r f s lacks e =
    ap (λ taken. reads_behind w u r taken s) (lacks.1 (ap (λ l. l.tokens) e)) ∙ file_done w u r f s e
