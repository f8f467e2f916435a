-- What is left of an open file while it is worked on, and how far the code has led a unit.
use Rattle.std.specs.Prelude.{◌≡◌, ℕ, Bool, List, [], ◌++◌, flat_map, Option, Some, None, Result, Ok, Err}
use Rattle.cr_base.specs.declared.cause.Role.TheVariants.{Controlling, Directive as InDirective}
use Rattle.cr_base.specs.declared.token.Place.{Place}
use Rattle.cr_base.specs.declared.unit.Unit.{Unit}
use Rattle.cr_macros.specs.Expansion.{Table}
use Rattle.cr_macros.specs.Tokens.{Text, Token, tokens_of, Answer}
use Rattle.cr_expand.specs.Ahead.{Next, next_token}
use Rattle.cr_preproc.specs.declared.conditional.Decision.{Decision}
use Rattle.cr_preproc.specs.declared.conditional.Decision.TheVariants as decision
use Rattle.cr_preproc.specs.declared.conditional.Led.{Led}
use Rattle.cr_preproc.specs.declared.conditional.Led.TheVariants as led
use Rattle.cr_preproc.specs.declared.directing.Directed.{Directed}
use Rattle.cr_preproc.specs.declared.directing.Directed.TheVariants as directed
use Rattle.cr_preproc.specs.declared.expansion.Fault.{Fault}
use Rattle.cr_phase4.specs.declared.conditionals.OpenIf.{OpenIf}
use Rattle.cr_preproc.specs.declared.progress.Progress.{Progress}
use Rattle.cr_phase4.specs.Tasks.{Event, State, Reply, Goes, Ends, Task, Nothing, Done, behind, go_on, ◌>>>◌, only, ready, tell, marks, gives, from_answer, at_place, in_directive}
use Rattle.cr_phase4.specs.PreprocessingRun.{steps}
use Rattle.cr_phase4.specs.Search.{World}
use Rattle.cr_phase4.specs.Runs.{run_in, expands}
use Rattle.cr_phase4.specs.Conditionals.{group_if, opened, is_true, list_value}
use Rattle.cr_preproc.specs.OpenIfs.{with_group}
use Rattle.cr_phase4.specs.Directives.{Opening, all_marks, header_name, includes_expanded, opens}
use Rattle.cr_preproc.specs.Progressing.{state_of, IsTold}
use Rattle.cr_preproc.specs.Expanding.{end_by}
use Rattle.cr_preproc.specs.Seen.{AreNamed}
use Rattle.cr_snapshot.specs.IncludeSearch.{candidates}

-- What was left before is these events, so many of them steps, and then what is left now; the events were kept.
pub record Leads {A : Type 0} (n : ℕ) (old now : Progress) (before after1 : Reply A) : Type 0 where
  pub events : List Event
  pub size : steps events ≡ n
  pub goes : before ≡ behind events after1
  pub told : IsTold old now events

-- the next token of a run is given, and the run goes on
abbrev pub given_on : Table → Option Next → Task Nothing
given_on table None = ready
given_on table (Some next) = gives next.tokens >>> λ d. run_in table next.rest

-- what is left of a run, of which this comes next
abbrev pub run_left : Table → State → Answer (Option Next) → Reply Nothing
run_left table s answer = go_on (from_answer s answer) (given_on table)

-- A run goes from one token of its result to the next.
abbrev pub GoesByTokens : Type 0
GoesByTokens = (table : Table) (ts : List Token) (s : State) → run_left table s (next_token table ts s.work) ≡ run_in table ts s

-- What is left of a directive's list, which gave some tokens already, and of what they are for. A cause stands at the `#`.
abbrev pub list_left : {A : Type 0} → Place → State → List Token → Answer (List Token) → (List Token → Task A) → Reply A
list_left hash s given answer k = go_on (at_place hash (from_answer s answer)) (λ more. k (given ++ more))

-- the group of a conditional that begins, or of the innermost one, is chosen by the value of a list
abbrev pub chosen : Decision → Place → List OpenIf → Bool → List OpenIf
chosen decision.If hash cs b = opened hash (group_if b) cs
chosen decision.Elif hash cs b = with_group (group_if b) cs

abbrev pub decided : Decision → Place → List OpenIf → List Token → Task (List OpenIf)
decided d hash cs us = tell (flat_map (marks Controlling) us) >>> λ n. is_true hash (list_value us) >>> λ b. only (chosen d hash cs b)

-- an include whose list was expanded
abbrev pub includes_given : World → Unit → Opening → Text → Place → List Token → Task Nothing
includes_given w u enter path hash us = tell (all_marks InDirective us) >>> λ d. includes_expanded w u enter path hash us (header_name us)

-- What a conditional directive leads to.
abbrev pub IsLed : Text → Place → Progress → Progress → List OpenIf → List OpenIf → Task (List OpenIf) → Led → Type 0
IsLed path hash old now cs ds m led.Goes = Leads 0 old now (m (state_of old)) (Goes ds (state_of now) [])
IsLed path hash old now cs ds m (led.Fails f) = Leads {A = List OpenIf} 0 old now (m (state_of old)) (Ends (end_by f) []) × (ds ≡ cs) × (state_of now ≡ state_of old)
IsLed path hash old now cs ds m (led.Asks d list) =
    Leads 0 old now (m (state_of old)) ((in_directive hash (expands path (tokens_of now.names list.items)) >>> λ us. decided d hash cs us) (state_of now))
    × (ds ≡ cs) × (state_of now ≡ state_of old) × AreNamed now.names list.items

-- What a directive that isn't conditional leads to.
abbrev pub IsDirected : World → Unit → Opening → Text → Place → List Token → Progress → Progress → Task Nothing → Directed → Type 0
IsDirected w u enter path hash ts old now m directed.Goes = Leads 0 old now (m (state_of old)) (Goes Done (state_of now) [])
IsDirected w u enter path hash ts old now m (directed.Fails f) = Leads {A = Nothing} 0 old now (m (state_of old)) (Ends (end_by f) [])
IsDirected w u enter path hash ts old now m directed.Expands =
    Leads 0 old now (m (state_of old)) ((in_directive hash (expands path ts) >>> includes_given w u enter path hash) (state_of now))
IsDirected w u enter path hash ts old now m (directed.Looks header site) =
    Leads 0 old now (m (state_of old)) (opens w enter site (candidates u path header.angled header.name.items) (state_of now))

-- Whether an expanded list is true, or how the unit ends; nothing else is changed.
abbrev pub IsDecided : Place → Progress → Progress → List Token → Result Bool Fault → Type 0
IsDecided hash old now us (Ok b) =
    Leads 0 old now ((tell (flat_map (marks Controlling) us) >>> λ n. is_true hash (list_value us)) (state_of old)) (Goes b (state_of now) []) × (state_of now ≡ state_of old)
IsDecided hash old now us (Err f) =
    Leads {A = Bool} 0 old now ((tell (flat_map (marks Controlling) us) >>> λ n. is_true hash (list_value us)) (state_of old)) (Ends (end_by f) []) × (state_of now ≡ state_of old)
