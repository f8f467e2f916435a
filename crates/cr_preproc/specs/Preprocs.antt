-- A unit that is preprocessed step by step: what is left of it, and what a run of steps gives.
use Rattle.std.specs.Prelude.{◌≡◌, ◌<◌, ◌^◌, ℕ, suc, List, [], ◌∷◌, length, map, reverse, Option, Some, None, Result, Ok, Err}
use Rattle.std.specs.List.{AllByRecursion}
use Rattle.std.specs.Prelude.{Vec}
use Rattle.std.specs.declared.alloc.Global.{Global}
use Rattle.cr_base.specs.declared.unit.Unit.{Unit}
use Rattle.cr_base.specs.declared.memory.OutOfMemory.{OutOfMemory}
use Rattle.cr_macros.specs.Tokens.{Text, tokens_of}
use Rattle.cr_macros.specs.Definition.{text_of}
use Rattle.cr_expand.specs.Expanders.{plain}
use Rattle.cr_snapshot.specs.declared.known.KnownFile.{KnownFile}
use Rattle.cr_preproc.specs.declared.expansion.Fault.{Fault}
use Rattle.cr_preproc.specs.declared.open_file.OpenFile.{OpenFile}
use Rattle.cr_preproc.specs.declared.preproc.Ending.{Ending}
use Rattle.cr_preproc.specs.declared.preproc.Ending.TheVariants as ending
use Rattle.cr_preproc.specs.declared.preproc.Firsts.{Firsts}
use Rattle.cr_preproc.specs.declared.preproc.Firsts.TheVariants as firsts
use Rattle.cr_preproc.specs.declared.preproc.PreTurn.{PreTurn}
use Rattle.cr_preproc.specs.declared.preproc.PreTurn.TheVariants as pre
use Rattle.cr_preproc.specs.declared.preproc.Preproc.{Preproc}
use Rattle.cr_preproc.specs.declared.turning.Doing.TheVariants as doing
use Rattle.cr_preproc.specs.declared.turning.Turned.{Turned}
use Rattle.cr_preproc.specs.declared.turning.Turned.TheVariants as turned
use Rattle.cr_phase4.specs.Tasks.{Needs, Event, State, Reply, Goes, Ends, Task, Nothing, Done, behind, ◌>>>◌, ready}
use Rattle.cr_phase4.specs.PreprocessingRun.{steps, final_tokens}
use Rattle.cr_phase4.specs.Search.{World, world_of, words_path}
use Rattle.cr_phase4.specs.Preprocessing.{does_first_file, preprocessed}
use Rattle.cr_phase4.specs.Traces.{trace_of}
use Rattle.cr_preproc.specs.OpenFiles.{reads_file, reading_of, IsOpen}
use Rattle.cr_preproc.specs.Progressing.{state_of, kept, IsProgress}
use Rattle.cr_preproc.specs.Expanding.{end_by}
use Rattle.cr_preproc.specs.Leading.{Leads}
use Rattle.cr_preproc.specs.Turning.{doing_left, IsWorking}

-- the files that no include names and that are still to be opened
abbrev pub firsts_left : World → Unit → Firsts → Task Nothing
firsts_left w u firsts.Words = does_first_file w u (words_path u) >>> λ d. does_first_file w u u.main
firsts_left w u firsts.Main = does_first_file w u u.main
firsts_left w u firsts.Nothing = ready

-- the open files are read on, the innermost first, and then those
abbrev pub files_left : World → Unit → List Text → List KnownFile → Firsts → List OpenFile → Task Nothing
files_left w u names files firsts [] = firsts_left w u firsts
files_left w u names files firsts (f ∷ fs) = reads_file w u (reading_of names files f) >>> λ d. files_left w u names files firsts fs

-- what is left of a unit that hasn't ended, where this is the innermost open file
abbrev pub going_left : World → List KnownFile → Preproc → Option OpenFile → Reply Nothing
going_left w files p None = firsts_left w p.unit p.firsts (state_of p.progress)
going_left w files p (Some f) =
    doing_left w p.unit p.progress (reading_of p.progress.names files f) (files_left w p.unit p.progress.names files p.firsts (reverse p.outer.items)) p.doing

-- what is left of one that has ended; of want of memory nothing is said
abbrev pub ended_left : State → Ending → Reply Nothing
ended_left s ending.Done = Goes Done s []
ended_left s (ending.Ill fault) = Ends (end_by fault) []
ended_left s ending.OutOfMemory = Ends (Needs []) []

abbrev pub left_by : World → List KnownFile → Preproc → Option Ending → Reply Nothing
left_by w files p None = going_left w files p p.file
left_by w files p (Some end) = ended_left (state_of p.progress) end

-- What is left of a unit, where these files are known.
abbrev pub left_of : List KnownFile → Preproc → Reply Nothing
left_of files p = left_by (world_of files) files p p.ending

-- the files around the innermost one wait behind an include, each with no line begun
abbrev pub IsOuter : List KnownFile → List Text → List OpenFile → Type 0
IsOuter files names = AllByRecursion (λ g. IsOpen names files g × (g.line.items ≡ []))

-- the innermost file is worked on, and where there is none, none is around it
abbrev pub AreOpen : List KnownFile → Preproc → Option OpenFile → Type 0
AreOpen files p None = (p.doing ≡ doing.Reads) × (p.outer.items ≡ [])
AreOpen files p (Some f) = IsWorking files p.progress f p.doing × IsOuter files p.progress.names p.outer.items

-- The tables are good, and the open files are read in the files that are known; of want of memory nothing is said.
abbrev pub IsGoing : List KnownFile → Preproc → Option Ending → Type 0
IsGoing files p None = IsProgress p.progress × AreOpen files p p.file
IsGoing files p (Some ending.Done) = IsProgress p.progress
IsGoing files p (Some (ending.Ill fault)) = IsProgress p.progress
IsGoing files p (Some ending.OutOfMemory) = Prim.Unit {0}

abbrev pub IsSound : List KnownFile → Preproc → Type 0
IsSound files p = IsGoing files p p.ending

-- A unit on which steps may be made: there is room in the table of names for what a step may put into it, and for the tokens
-- behind it.
pub record IsPreproc (files : List KnownFile) (p : Preproc) : Type 0 where
  pub sound : IsSound files p
  pub room : length p.progress.names < 2 ^ 31

-- A unit of which nothing is preprocessed.
pub record IsFresh (unit : Unit) (old new : Text) (p : Preproc) : Type 0 where
  pub going : p.ending ≡ None
  pub progress : IsProgress p.progress
  pub good : (files : List KnownFile) → IsPreproc files p
  pub left : (files : List KnownFile) → left_of files p ≡ preprocessed (world_of files) unit
  pub tokens : p.progress.tokens.items ≡ []
  pub trace : kept p.progress.trace ≡ trace_of old new []
  pub old_text : text_of p.progress.names p.progress.renaming.old ≡ old
  pub new_text : text_of p.progress.names p.progress.renaming.new ≡ new

-- what is answered where the unit has ended
abbrev pub answer_of : Ending → Result PreTurn OutOfMemory
answer_of ending.Done = Ok pre.Done
answer_of (ending.Ill fault) = Ok (pre.Ill fault.cause fault.place)
answer_of ending.OutOfMemory = Err (record {})

-- the path of the next file that no include names, and what comes behind it
abbrev pub path_of : Unit → Firsts → Option Text
path_of u firsts.Words = Some (words_path u)
path_of u firsts.Main = Some u.main
path_of u firsts.Nothing = None

abbrev pub next_of : Firsts → Firsts
next_of firsts.Words = firsts.Main
next_of firsts.Main = firsts.Nothing
next_of firsts.Nothing = firsts.Nothing

-- Only what is done in the innermost file may differ.
pub record IsSameUnit (p q : Preproc) : Type 0 where
  pub alloc : q.alloc ≡ p.alloc
  pub unit : q.unit ≡ p.unit
  pub outer : q.outer ≡ p.outer
  pub firsts : q.firsts ≡ p.firsts
  pub going : p.ending ≡ None
  pub ending : q.ending ≡ None

-- what a search for a file comes to
abbrev pub IsOfSearch : Turned → Type 0
IsOfSearch turned.Steps = ⊥
IsOfSearch turned.Closes = ⊥
IsOfSearch turned.Goes = Prim.Unit {0}
IsOfSearch (turned.Opens f) = Prim.Unit {0}
IsOfSearch (turned.Needs paths) = Prim.Unit {0}
IsOfSearch (turned.Ends fault) = Prim.Unit {0}

-- What a turn leads to: nothing but what is left, a step, or files that are wanted.
abbrev pub TurnLeads : List KnownFile → Preproc → Preproc → Option PreTurn → Type 0
TurnLeads files p q None = Leads 0 p.progress q.progress (left_of files p) (left_of files q) × IsSound files q
TurnLeads files p q (Some pre.More) = Leads 1 p.progress q.progress (left_of files p) (left_of files q) × IsSound files q
TurnLeads files p q (Some (pre.Needs paths)) = (left_of files p ≡ Ends (Needs paths.items) []) × (q ≡ p)
TurnLeads files p q (Some pre.Done) = ⊥
TurnLeads files p q (Some (pre.Ill why place)) = ⊥

pub record IsTurn (files : List KnownFile) (p q : Preproc) (turn : Option PreTurn) : Type 0 where
  pub leads : TurnLeads files p q turn

-- What a step leads to, where these files are known.
abbrev pub StepLeads : List KnownFile → Preproc → Preproc → PreTurn → Type 0
StepLeads files p q pre.More = (p.ending ≡ None) × Leads 1 p.progress q.progress (left_of files p) (left_of files q)
StepLeads files p q (pre.Needs paths) = Leads {A = Nothing} 0 p.progress q.progress (left_of files p) (Ends (Needs paths.items) []) × (left_of files q ≡ Ends (Needs paths.items) [])
StepLeads files p q pre.Done = (q.ending ≡ Some ending.Done) × Leads 0 p.progress q.progress (left_of files p) (left_of files q)
StepLeads files p q (pre.Ill why place) =
    (q.ending ≡ Some (ending.Ill (record { cause = why; place = place })))
    × Leads 0 p.progress q.progress (left_of files p) (left_of files q)

pub record IsPreStep (files : List KnownFile) (p q : Preproc) (turn : PreTurn) : Type 0 where
  pub leads : StepLeads files p q turn

-- What happened from one state of a unit to another without a step, before it ended.
pub record IsSilent (files : List KnownFile) (p q : Preproc) : Type 0 where
  pub leads : Leads 0 p.progress q.progress (left_of files p) (left_of files q)
  pub sound : IsSound files q
  pub going : q.ending ≡ None

-- That happened, and there is room.
pub record IsGoingOn (files : List KnownFile) (p q : Preproc) : Type 0 where
  pub silent : IsSilent files p q
  pub room : length q.progress.names < 2 ^ 31

-- Steps that were made one after another, so many of them, where these files are known.
pub data Run (files : List KnownFile) (first : Preproc) : ℕ → Preproc → Type 0 where
  Begins : Run files first 0 first
  Steps : {n : ℕ} {p : Preproc} → Run files first n p → (q : Preproc) → IsPreStep files p q pre.More → Run files first (suc n) q

-- The events are so many steps, and the tokens and the trace that are there are those of the events.
pub record AreMade (old new : Text) (n : ℕ) (p : Preproc) (events : List Event) : Type 0 where
  pub size : steps events ≡ n
  pub tokens : tokens_of p.progress.names p.progress.tokens.items ≡ map plain (final_tokens events)
  pub trace : kept p.progress.trace ≡ trace_of old new events

-- What has happened is that part of the unit's preprocessing, and its tokens and its trace are those that are there.
pub record Happened (unit : Unit) (old new : Text) (files : List KnownFile) (n : ℕ) (p : Preproc) : Type 0 where
  pub events : List Event
  pub so_far : preprocessed (world_of files) unit ≡ behind events (left_of files p)
  pub made : AreMade old new n p events

-- After n steps what has happened is the unit's preprocessing up to its nth step.
abbrev pub GoesByTheDefinition : Type 0
GoesByTheDefinition =
    (unit : Unit) (old new : Text) (files : List KnownFile) (first p : Preproc) (n : ℕ) → IsFresh unit old new first → Run files first n p → Happened unit old new files n p

-- The whole of it is there at its end; and where it has a fault or wants files, so has the definition, after as many steps.
abbrev pub EndsByTheDefinition : Type 0
EndsByTheDefinition =
    (unit : Unit) (old new : Text) (files : List KnownFile) (first p q : Preproc) (n : ℕ) → IsFresh unit old new first → Run files first n p
    → (IsPreStep files p q pre.Done → (s : State) × (events : List Event) × (preprocessed (world_of files) unit ≡ Goes Done s events) × AreMade old new n q events)
    × ((fault : Fault) → IsPreStep files p q (pre.Ill fault.cause fault.place)
    → (events : List Event) × (preprocessed (world_of files) unit ≡ Ends (end_by fault) events) × AreMade old new n q events)
    × ((paths : Vec Text Global) → IsPreStep files p q (pre.Needs paths) → (events : List Event) × (preprocessed (world_of files) unit ≡ Ends (Needs paths.items) events) × AreMade old new n q events)
