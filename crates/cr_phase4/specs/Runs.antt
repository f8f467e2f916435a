-- The expansion of a run: the tokens of text lines that no directive but a conditional one parts (C11 6.10.3p10 leaves
-- a call over several lines, 6.10.3p11 makes a directive inside one undefined; that a run is one list is an own rule of
-- this project).
use Rattle.std.specs.Prelude.{◌≡◌, ℕ, zero, suc, ◌+◌, Bool, true, false, if◌then◌else◌, List, [], ◌∷◌, ◌++◌, length}
use Rattle.cr_base.specs.declared.cause.IllCause.{IllCause}
use Rattle.cr_base.specs.declared.cause.IllCause.TheVariants as cause
use Rattle.cr_macros.specs.Tokens.{Text, Token}
use Rattle.cr_macros.specs.Substitution.{in_quotes, escaped}
use Rattle.cr_macros.specs.Expansion.{Table, Use, use_of, expand}
use Rattle.cr_macros.specs.Uses.{put_for, is_given, left_behind}
use Rattle.cr_phase4.specs.Tasks.{Macros, End, Ill, Over, Needs, State, Reply, Goes, Ends, Task, Nothing, ◌>>>◌, ready, ends, does, gives, events_of}

-- the macros of a state, in the file at a path
abbrev pub table_in : Text → State → Table
table_in path s = record { macro = s.macro; file = in_quotes (escaped path) }

-- a directive's list is expanded
abbrev pub expands : Text → List Token → Task (List Token)
expands path ts s = does (expand (table_in path s) ts) s

-- tokens that are given out are final; others are expanded again, with what comes behind them
abbrev pub run_on : (List Token → Task Nothing) → Bool → List Token → List Token → Task Nothing
run_on go true ts rest = gives ts >>> λ d. go rest
run_on go false ts rest = go (ts ++ rest)

-- A use of a rule at the head t of a run: a token of the result is given out as soon as it is found.
abbrev pub run_by : (List Token → Task Nothing) → Table → Token → List Token → Use → Task Nothing
run_by go table t rest u = does (put_for table t u) >>> λ ts. run_on go (is_given u) ts (left_behind rest u)

abbrev pub run_rules : (List Token → Task Nothing) → Table → List Token → Task Nothing
run_rules go table [] = ready
run_rules go table (t ∷ rest) = run_by go table t rest (use_of table t rest)

abbrev pub runs_within : ℕ → Table → List Token → Task Nothing
runs_within zero table ts = ends (Over Macros)
runs_within (suc n) table ts = run_rules (runs_within n table) table ts

-- A run with these macros. Each use of a rule lessens the macro work that is left and the length together, so this is deep
-- enough, and a run is what the rules say of runs, which is a theorem.
abbrev pub run_in : Table → List Token → Task Nothing
run_in table ts s = runs_within (suc (s.work + length ts)) table ts s

-- A run is expanded as one list.
abbrev pub runs : Text → List Token → Task Nothing
runs path ts s = run_in (table_in path s) ts s

-- That theorem.
abbrev pub FollowsTheRules : Type 0
FollowsTheRules = (table : Table) (ts : List Token) (s : State) → run_in table ts s ≡ run_rules (run_in table) table ts s

abbrev pub is_open_cause : IllCause → Bool
is_open_cause cause.OpenCall = true
is_open_cause _ = false

abbrev pub is_open_call : End → Bool
is_open_call (Ill why site) = is_open_cause why
is_open_call (Over limit) = false
is_open_call (Needs paths) = false

-- how the run ends the unit, if it does, unless a call is open at its end
abbrev pub earlier : End → Reply Nothing → End
earlier end (Goes d s events) = end
earlier end (Ends of_run events) = if is_open_call of_run then end else of_run

abbrev pub after_run : {A : Type 0} → Text → List Token → State → Reply A → Reply A
after_run path run s (Goes a s1 events) = Goes a s1 events
after_run path run s (Ends end events) = Ends (earlier end (runs path run s)) (events ++ events_of (runs path run s))

-- This is done inside a run. Where it ends the unit, the run's tokens so far are expanded first, and an end that this
-- gives comes first, unless it is a call that is open there.
abbrev pub inside : {A : Type 0} → Text → List Token → Task A → Task A
inside path run m s = after_run path run s (m s)
