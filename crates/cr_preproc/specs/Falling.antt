-- How many turns a unit can still make without a step: a number that falls with each such turn.
use Rattle.std.specs.Prelude.{◌≡◌, ◌≤◌, ◌<◌, ◌+◌, ◌*◌, ℕ, suc, List, [], ◌∷◌, length, Option, Some, None, Result, Ok, Err}
use Rattle.cr_base.specs.declared.token.PpTok.{PpTok}
use Rattle.cr_preproc.specs.declared.directing.Directed.{Directed}
use Rattle.cr_preproc.specs.declared.directing.Directed.TheVariants as directed
use Rattle.cr_preproc.specs.declared.expansion.Fault.{Fault}
use Rattle.cr_preproc.specs.declared.open_file.OpenFile.{OpenFile}
use Rattle.cr_preproc.specs.declared.preproc.Firsts.{Firsts}
use Rattle.cr_preproc.specs.declared.preproc.Firsts.TheVariants as firsts
use Rattle.cr_preproc.specs.declared.preproc.PreTurn.{PreTurn}
use Rattle.cr_preproc.specs.declared.preproc.Preproc.{Preproc}
use Rattle.cr_preproc.specs.declared.progress.Progress.{Progress}
use Rattle.cr_preproc.specs.declared.turning.Doing.{Doing}
use Rattle.cr_preproc.specs.declared.turning.Doing.TheVariants as doing
use Rattle.cr_preproc.specs.declared.turning.Then.{Then}
use Rattle.cr_preproc.specs.declared.turning.Then.TheVariants as then
use Rattle.cr_preproc.specs.declared.turning.Turned.{Turned}
use Rattle.cr_preproc.specs.declared.turning.Turned.TheVariants as turned

-- Where nothing of a line is taken, all that comes without a step is the file's end; a line that was begun is carried out first.
abbrev pub line_rank : List PpTok → ℕ
line_rank [] = 2
line_rank (t ∷ ts) = 6

-- behind a run the directive that is the present line is carried out, or nothing more is done in the file
abbrev pub then_rank : Then → ℕ
then_rank then.Line = 5
then_rank then.Close = 1
then_rank (then.Fails f) = 1

-- What is done in an open file has a rank, and what follows without a step has a lower one: a line is read, its run is
-- expanded or its condition decided, its include is expanded, its file is looked for, the next line is read, the file ends, the unit ends.
abbrev pub rank : OpenFile → Doing → ℕ
rank f doing.Reads = line_rank f.line.items
rank f (doing.Expands e next) = then_rank next
rank f (doing.Decides l d) = 5
rank f (doing.Includes l) = 4
rank f (doing.Looks paths site) = 3
rank f (doing.Fails fault) = 0

-- What falls with a turn without a step: what is done next has a lower rank, or the file is closed, or a file is opened, which
-- was counted as read; and no more may be read than before.
abbrev pub Falls : Progress → Progress → OpenFile → OpenFile → Doing → Doing → Turned → Type 0
Falls p q f g d e turned.Goes = (q.reading ≤ p.reading) × (rank g e < rank f d)
Falls p q f g d e turned.Closes = q.reading ≤ p.reading
Falls p q f g d e (turned.Opens h) = q.reading < p.reading
Falls p q f g d e turned.Steps = Prim.Unit {0}
Falls p q f g d e (turned.Needs paths) = Prim.Unit {0}
Falls p q f g d e (turned.Ends fault) = Prim.Unit {0}

-- A file that a search opened was counted as read; and no more may be read than before.
abbrev pub CountsFile : Progress → Progress → Turned → Type 0
CountsFile p q (turned.Opens h) = q.reading < p.reading
CountsFile p q turned.Goes = q.reading ≤ p.reading
CountsFile p q turned.Closes = q.reading ≤ p.reading
CountsFile p q turned.Steps = q.reading ≤ p.reading
CountsFile p q (turned.Needs paths) = q.reading ≤ p.reading
CountsFile p q (turned.Ends fault) = q.reading ≤ p.reading

-- Behind a directive this is done next, which has a lower rank than that once the line is gone; or the unit ends.
abbrev pub IsBelow : ℕ → Result Doing Fault → Type 0
IsBelow n (Ok e) = (g : OpenFile) → g.line.items ≡ [] → rank g e < n
IsBelow n (Err fault) = Prim.Unit {0}

-- a directive that isn't followed by the expansion of its list
abbrev pub IsUnexpanded : Directed → Type 0
IsUnexpanded directed.Expands = ⊥
IsUnexpanded directed.Goes = Prim.Unit {0}
IsUnexpanded (directed.Fails f) = Prim.Unit {0}
IsUnexpanded (directed.Looks header site) = Prim.Unit {0}

-- how many files are open
abbrev pub files_open : Option OpenFile → List OpenFile → ℕ
files_open None outer = length outer
files_open (Some f) outer = suc (length outer)

-- how many files that no include names are still to be opened
abbrev pub firsts_to_open : Firsts → ℕ
firsts_to_open firsts.Words = 2
firsts_to_open firsts.Main = 1
firsts_to_open firsts.Nothing = 0

-- the rank of what is done in the innermost file
abbrev pub innermost_rank : Option OpenFile → Doing → ℕ
innermost_rank None d = 0
innermost_rank (Some f) d = rank f d

-- This bounds how many turns a unit can still make without a step: 16 for each token or file that may still be read, 8 for each file that
-- is open or that no include names and is still to be opened, and the rank of what is done.
abbrev pub turns_left : Preproc → ℕ
turns_left p = 16 * p.progress.reading + 8 * (files_open p.file p.outer.items + firsts_to_open p.firsts) + innermost_rank p.file p.doing

-- A turn that makes no step and doesn't end the unit leaves fewer such turns.
abbrev pub TurnFalls : Preproc → Preproc → Option PreTurn → Type 0
TurnFalls p q None = q.ending ≡ None → turns_left q < turns_left p
TurnFalls p q (Some turn) = Prim.Unit {0}
