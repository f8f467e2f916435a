-- A list that is expanded, as the code does it: what it still gives, and what one more use of a rule does.
use Rattle.std.specs.Prelude.{◌≡◌, ◌≤◌, ◌-◌, true, List, [], ◌∷◌, ◌++◌, map, flat_map, Option, Some, None, Box}
use Rattle.std.specs.declared.alloc.Global.{Global}
use Rattle.cr_base.specs.declared.token.Place.{Place}
use Rattle.cr_base.specs.declared.cause.IllCause.{IllCause}
use Rattle.cr_base.specs.declared.cause.IllCause.TheVariants as cause
use Rattle.cr_macros.specs.Definition.{text_of}
use Rattle.cr_macros.specs.Expansion.{Table}
use Rattle.cr_macros.specs.MacroTables.{table_of}
use Rattle.cr_macros.specs.Tokens.{Text, Token, token_of, Event as Telling, Answer, Gave, Stopped, after}
use Rattle.cr_macros.specs.declared.fault.ExpandFault.{ExpandFault}
use Rattle.cr_macros.specs.declared.fault.ExpandFault.TheVariants as fault
use Rattle.cr_expand.specs.Ahead.{Next, next_token}
use Rattle.cr_expand.specs.Expanders.{IsRunning}
use Rattle.cr_expand.specs.Held.{IsNamed as IsNameKnown}
use Rattle.cr_expand.specs.Machines.{still, ahead, uses, EndsWithRule}
use Rattle.cr_expand.specs.Running.{leads}
use Rattle.cr_expand.specs.declared.machine.TheConstants.{LIMIT}
use Rattle.cr_preproc.specs.declared.expansion.Expansion.{Expansion}
use Rattle.cr_preproc.specs.declared.expansion.Fault.{Fault}
use Rattle.cr_preproc.specs.declared.expansion.Use.{Use}
use Rattle.cr_preproc.specs.declared.expansion.Use.TheVariants as use1
use Rattle.cr_preproc.specs.declared.progress.Progress.{Progress}
use Rattle.cr_preproc.specs.declared.trace.Trace.{Trace}
use Rattle.cr_macros.specs.declared.macros.Seen.{Seen}
use Rattle.cr_phase4.specs.Traces.{opaque_place}
use Rattle.cr_phase4.specs.Tasks.{End, Ill, Over, Tokens, Macros, Reading, Includes, Told, end_of, told_by_uses}
use Rattle.cr_preproc.specs.Progressing.{IsTold}

-- an expansion that stays where it is
abbrev pub Boxed : Type 0
Boxed = Box Expansion Global

-- what the expansion gives, and what it gives next
abbrev pub still_in : Progress → Expansion → Answer (List Token)
still_in p e = still p.names p.macros e.expander.machine []

abbrev pub ahead_in : Progress → Expansion → Answer (Option Next)
ahead_in p e = ahead p.names p.macros e.expander.machine []

abbrev pub table_for : Progress → Expansion → Table
table_for p e = table_of p.names p.macros (text_of p.names e.expander.machine.file)

-- The tables gave what it holds; no more comes; it notes what the unit notes.
pub record IsExpanding (p : Progress) (e : Expansion) : Type 0 where
  pub running : IsRunning p.names p.macros e.expander
  pub finished : e.expander.machine.finished ≡ true
  pub fault : e.expander.fault ≡ None
  pub from : e.expander.machine.notes.from ≡ p.renaming.old
  pub to : e.expander.machine.notes.to ≡ p.renaming.new
  pub literal : IsNameKnown p.names e.expander.machine.file
  pub limit : e.expander.machine.used ≤ LIMIT

-- how a unit ends by a fault, whose place is free where it is a limit's
abbrev pub ended_by : Place → IllCause → End
ended_by place cause.LimitTokens = Over Tokens
ended_by place cause.LimitMacros = Over Macros
ended_by place cause.LimitReading = Over Reading
ended_by place cause.LimitIncludes = Over Includes
ended_by place why = Ill why place

abbrev pub end_by : Fault → End
end_by f = ended_by f.place f.cause

-- The fault is that of the expansion, which isn't want of memory.
abbrev pub IsFaultOf : ExpandFault → Fault → Type 0
IsFaultOf (fault.BadDefine place) f = end_by f ≡ Ill cause.BadDefine place
IsFaultOf (fault.ArgCount place) f = end_by f ≡ Ill cause.ArgCount place
IsFaultOf (fault.OpenCall place) f = end_by f ≡ Ill cause.OpenCall place
IsFaultOf (fault.BadPaste place) f = end_by f ≡ Ill cause.BadPaste place
IsFaultOf fault.LimitMacros f = end_by f ≡ Over Macros
IsFaultOf fault.OutOfMemory f = ⊥

-- Nothing is changed but that names were added and roles noted.
pub record IsNoted (old now : Progress) (noted : List Telling) : Type 0 where
  pub told : IsTold old now (map Told noted)
  pub macros : now.macros ≡ old.macros
  pub once : now.once ≡ old.once
  pub used : now.used ≡ old.used
  pub reading : now.reading ≡ old.reading
  pub tokens : now.tokens ≡ old.tokens

-- the work stops by a cause that ends a unit so, and nothing is told before it
abbrev pub StopsAt : {A : Type 0} → Answer A → End → Type 0
StopsAt (Gave a left events) end = ⊥
StopsAt (Stopped why events) end = (end_of why ≡ end) × (told_by_uses events ≡ [])

-- What one use of a rule tells: its roles, and then that it was used.
abbrev pub IsOneUse : List Telling → Type 0
IsOneUse told = (uses told ≡ 1) × EndsWithRule told

-- One more use of a rule.
abbrev pub IsUsed : Progress → Progress → Expansion → Expansion → Use → Type 0
IsUsed old now e f (use1.Gives t) =
    (hide : List Text) × (told : List Telling) × (rest : List Token)
    × IsOneUse told
    × (ahead_in old e ≡ Gave (Some (record { tokens = token_of now.names hide t ∷ []; rest = rest })) (LIMIT - f.expander.machine.used) told)
    × (ahead_in now f ≡ next_token (table_for now f) rest (LIMIT - f.expander.machine.used))
    × (still_in old e ≡ leads (token_of now.names hide t ∷ []) told (still_in now f))
    × IsNameKnown now.names t.text
    × IsNoted old now told
    × IsExpanding now f
    × (f.expander.machine.file ≡ e.expander.machine.file)
IsUsed old now e f use1.Goes =
    (told : List Telling)
    × IsOneUse told
    × (ahead_in old e ≡ after told (ahead_in now f))
    × (still_in old e ≡ leads [] told (still_in now f))
    × IsNoted old now told
    × IsExpanding now f
    × (f.expander.machine.file ≡ e.expander.machine.file)
IsUsed old now e f use1.Ends =
    (now ≡ old)
    × (f.expander.machine.used ≤ LIMIT)
    × (ahead_in old e ≡ Gave None (LIMIT - f.expander.machine.used) [])
    × (still_in old e ≡ Gave [] (LIMIT - f.expander.machine.used) [])
IsUsed old now e f (use1.Fails fault1) =
    StopsAt (ahead_in old e) (end_by fault1) × StopsAt (still_in old e) (end_by fault1) × IsNoted old now []

-- What these places were taken for is kept behind what was kept.
pub record IsKept (old now : Trace) (more : List Seen) : Type 0 where
  pub seen : now.seen.items ≡ old.seen.items ++ more
  pub opaque : now.opaque.items ≡ old.opaque.items ++ flat_map (λ s. opaque_place s s.role) more
  pub new_macros : now.new_macros ≡ old.new_macros
  pub body_params : now.body_params ≡ old.body_params
