-- What is left of a unit, file by file: the open files, each to be read on behind its include.
use Rattle.std.specs.Prelude.{◌≡◌, ℕ, suc, Bool, if◌then◌else◌, List, [], ◌∷◌, Option}
use Rattle.cr_base.specs.declared.unit.Unit.{Unit}
use Rattle.cr_macros.specs.Tokens.{Text, Token}
use Rattle.cr_phase4.specs.declared.conditionals.OpenIf.{OpenIf}
use Rattle.cr_phase4.specs.Tasks.{End, Opened, Event, State, Reply, Task, Nothing, behind, ◌>>>◌, ready, tell, reads}
use Rattle.cr_phase4.specs.Lines.{File}
use Rattle.cr_phase4.specs.Search.{World}
use Rattle.cr_phase4.specs.Preprocessing.{does_lines, does_file, does_first_file, preprocessed}
use Rattle.cr_phase4.specs.PreprocessingRun.{Agrees}

-- An open file: how many levels of includes may still be open in it, its path, the lines that are left with the fault
-- behind them, and the open conditionals and the run so far.
pub record Frame : Type 0 where
  pub levels : ℕ
  pub path : Text
  pub lines : List (List Token)
  pub fault : Option End
  pub open_ifs : List OpenIf
  pub run : List Token

-- a file that was just opened
abbrev pub frame : ℕ → Text → File → Frame
frame n path file = record { levels = n; path = path; lines = file.lines; fault = file.fault; open_ifs = []; run = [] }

abbrev pub reads_on : World → Unit → Frame → Task Nothing
reads_on w u f = does_lines w u (does_file w u f.levels) f.path f.fault f.lines f.open_ifs f.run

-- the open files are read on, the innermost first
abbrev pub goes_on : World → Unit → List Frame → Task Nothing
goes_on w u [] = ready
goes_on w u (f ∷ fs) = reads_on w u f >>> λ d. goes_on w u fs

-- what is left of a unit, where the main file is still to be opened or not
abbrev pub left_of : World → Unit → Bool → List Frame → Task Nothing
left_of w u is_before_main fs = goes_on w u fs >>> λ d. if is_before_main then does_first_file w u u.main else ready

-- These events have happened, and this is left, as more becomes known.
abbrev pub IsLeft : World → Unit → List Event → (World → Reply Nothing) → Type 0
IsLeft w u events left = (v : World) → Agrees w v → preprocessed v u ≡ behind events (left v)

-- To open a file and to go on with others is to open it in front of them.
abbrev pub OpensInFront : Type 0
OpensInFront =
    (w : World) (u : Unit) (n : ℕ) (path : Text) (file : File) (fs : List Frame) (s : State)
    → (does_file w u (suc n) path file >>> λ d. goes_on w u fs) s
    ≡ (tell (Opened path ∷ []) >>> λ d. reads 1 [] >>> λ d. goes_on w u (frame n path file ∷ fs)) s
