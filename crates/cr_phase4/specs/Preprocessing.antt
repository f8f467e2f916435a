-- The preprocessing of a translation unit (C11 5.1.1.2, phase 4; 6.10): the text that its command words make, and then
-- its main file.
use Rattle.std.specs.Prelude.{ℕ, zero, suc, Bool, true, false, ◌&&◌, if◌then◌else◌, List, [], ◌∷◌, ◌++◌, Option, Some, None}
use Rattle.cr_base.specs.declared.cause.IllCause.TheVariants as cause
use Rattle.cr_base.specs.declared.cause.Role.TheVariants as role
use Rattle.cr_base.specs.declared.unit.Unit.{Unit}
use Rattle.cr_macros.specs.Tokens.{Text, Token}
use Rattle.cr_phase4.specs.Tasks.{Includes, End, Ill, Over, Took, Opened, State, Reply, Task, Nothing, ◌>>>◌, only, ready, ends, tell, marks, reads}
use Rattle.cr_phase4.specs.Lines.{File, place_in, Line, Plain, Conditional, Directive, Empty, Wordless, line_of}
use Rattle.cr_phase4.specs.Search.{World, words_path}
use Rattle.cr_phase4.specs.Runs.{runs, inside}
use Rattle.cr_phase4.specs.declared.conditionals.OpenIf.{OpenIf}
use Rattle.cr_phase4.specs.Conditionals.{is_live, conditional, is_word_live}
use Rattle.cr_phase4.specs.Directives.{Opening, opens, directive}

-- behind a line: the open conditionals of the file, the innermost first, and the run so far
pub record Ahead : Type 0 where
  pub open_ifs : List OpenIf
  pub run : List Token

abbrev pub ahead : List OpenIf → List Token → Ahead
ahead cs run = record { open_ifs = cs; run = run }

abbrev pub where_live : {A : Type 0} → Bool → Task A → Task A → Task A
where_live true m n = m
where_live false m n = n

-- What a line does. In a group that is skipped only conditional directives are read.
abbrev pub by_line : World → Unit → Opening → Text → List OpenIf → List Token → List Token → Line → Task Ahead
by_line w u enter path cs run line Plain = only (ahead cs (if is_live cs then run ++ line else run))
by_line w u enter path cs run line (Conditional hash t word ts) =
    inside path run (tell (if is_word_live cs word then marks role.Directive t else []) >>> λ d. conditional path hash ts cs word)
    >>> λ cs1. only (ahead cs1 run)
by_line w u enter path cs run line (Directive hash t ts) =
    where_live (is_live cs)
    (runs path run >>> λ d. tell (marks role.Directive t) >>> λ d. directive w u enter path hash t.text ts >>> λ d. only (ahead cs []))
    (only (ahead cs run))
by_line w u enter path cs run line Empty = where_live (is_live cs) (runs path run >>> λ d. only (ahead cs [])) (only (ahead cs run))
by_line w u enter path cs run line (Wordless hash) =
    where_live (is_live cs) (runs path run >>> λ d. ends (Ill cause.BadDirective hash)) (only (ahead cs run))

-- the end of a file: a lexical fault, a conditional that isn't closed, or the end of a run
abbrev pub at_end : Text → List Token → Option End → List OpenIf → Task Nothing
at_end path run (Some fault) cs = inside path run (ends fault)
at_end path run None (c ∷ cs) = inside path run (ends (Ill cause.OpenIf c.hash))
at_end path run None [] = runs path run

abbrev pub is_plain : Line → Bool
is_plain Plain = true
is_plain (Conditional hash t word ts) = false
is_plain (Directive hash t ts) = false
is_plain Empty = false
is_plain (Wordless hash) = false

-- the run with the tokens of a line that are taken so far, where they are text
abbrev pub run_with : List OpenIf → List Token → List Token → List Token
run_with cs run taken = if is_live cs && is_plain (line_of taken) then run ++ taken else run

-- the rest of a line is taken from the file, token by token
abbrev pub takes_rest : Text → List OpenIf → List Token → List Token → List Token → Task Nothing
takes_rest path cs run taken [] = ready
takes_rest path cs run taken (t ∷ rest) = inside path (run_with cs run taken) (reads 1 (Took ∷ [])) >>> λ d. takes_rest path cs run (taken ++ t ∷ []) rest

abbrev pub takes_line : Text → List OpenIf → List Token → List Token → Task Nothing
takes_line path cs run line = takes_rest path cs run [] line

abbrev pub does_lines : World → Unit → Opening → Text → Option End → List (List Token) → List OpenIf → List Token → Task Nothing
does_lines w u enter path fault [] cs run = at_end path run fault cs
does_lines w u enter path fault (line ∷ lines) cs run =
    takes_line path cs run line
    >>> λ d. by_line w u enter path cs run line (line_of line)
    >>> λ a. does_lines w u enter path fault lines a.open_ifs a.run

-- A file is opened where it may be open with so many levels of includes in it, itself counted.
abbrev pub does_file : World → Unit → ℕ → Text → File → Task Nothing
does_file w u zero path file = tell (Opened path ∷ []) >>> λ d. ends (Over Includes)
does_file w u (suc n) path file =
    tell (Opened path ∷ []) >>> λ d. reads 1 [] >>> λ d. does_lines w u (does_file w u n) path file.fault file.lines [] []

-- level 0, and 200 levels of includes
abbrev pub levels : ℕ
levels = 201

-- a file that no include names
abbrev pub does_first_file : World → Unit → Text → Task Nothing
does_first_file w u path = opens w (does_file w u levels) (place_in (w.number path) 0) (path ∷ [])

abbrev pub does_unit : World → Unit → Task Nothing
does_unit w u = does_first_file w u (words_path u) >>> λ d. does_first_file w u u.main

-- at first no macro is defined, and this much of each limit is left
abbrev pub at_first : State
at_first = record { macro = λ name. None; once = []; work = 4194304; reading = 33554432; room = 1048576 }

-- what happens in a unit as far as files are known, and how it ends
unfoldable pub preprocessed : World → Unit → Reply Nothing
preprocessed w u = does_unit w u at_first
