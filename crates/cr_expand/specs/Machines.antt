-- What a machine of macro expansion holds, and what it still gives.
use Rattle.std.specs.Prelude.{Bool, ◌≡◌, ℕ, suc, ◌+◌, ◌-◌, ◌<◌, ◌≤◌, true, false, List, [], ◌∷◌, ◌++◌, length, map, reverse, slice_index_or, Option, Some, None, ◌⊎◌}
use Rattle.std.specs.List.{All}
use Rattle.cr_base.specs.declared.token.Name.{Name}
use Rattle.cr_macros.specs.declared.macros.Macro.{Macro}
use Rattle.cr_macros.specs.declared.fault.ExpandFault.{ExpandFault}
use Rattle.cr_macros.specs.declared.fault.ExpandFault.TheVariants as fault
use Rattle.cr_expand.specs.declared.held.Held.{Held}
use Rattle.cr_expand.specs.declared.slot.Slot.{Slot}
use Rattle.cr_expand.specs.declared.slot.Slot.TheVariants as slot
use Rattle.cr_base.specs.NameTable.{IsDistinct}
use Rattle.cr_base.specs.declared.token.PpKind.{PpKind}
use Rattle.cr_base.specs.declared.cause.Role.TheVariants.{MacroName}
use Rattle.cr_macros.specs.Substitution
use Rattle.cr_macros.specs.Expansion.{arguments}
use Rattle.cr_expand.specs.Items.{IsMacroKnown}
use Rattle.cr_expand.specs.declared.machine.Machine.{Machine}
use Rattle.cr_expand.specs.declared.machine.ExpStep.{ExpStep}
use Rattle.cr_expand.specs.declared.machine.ExpStep.TheVariants as step
use Rattle.cr_expand.specs.declared.machine.TheConstants.{LIMIT}
use Rattle.cr_macros.specs.Tokens.{Text, Token, token_of, MacroText, Event, Rule, Taken, Answer, Gave, Stopped, Work, after, takes, with_name, both}
use Rattle.cr_macros.specs.Definition.{text_of}
use Rattle.cr_macros.specs.MacroTables.{Macros, macro_named, macro_text, table_of}
use Rattle.cr_expand.specs.HideSets.{Sets, Grows}
use Rattle.cr_expand.specs.Held.{held, all_held, all_args, hidden, IsKnown, AreKnown, IsNamed, AreTables, IsCause, Faults, watch_of, noted}
use Rattle.cr_expand.specs.Frames.{Call}
use Rattle.cr_expand.specs.Ahead.{Next, next_token}
use Rattle.cr_expand.specs.Running.{Waiting, current, before, goes_on_by, goes_on, leads, put_for, needs_more}
use Rattle.cr_expand.specs.Slots.{pieces, tokens, ends, ended, begun, AreSlotsKnown}
use Rattle.cr_expand.specs.Wanted.{is_wanted, is_whole, all_kept}
use Rattle.cr_expand.specs.Calls.{IsAmong, parted_slots}

-- what the name of a macro means; that of no macro has no body
abbrev pub means_of : List Text → Option Macro → MacroText
means_of names None = record { params = None; variadic = false; body = [] }
means_of names (Some m) = macro_text names m

-- a call with its texts
abbrev pub waiting_of : List Text → Macros → Sets → Call → Waiting
waiting_of names macros sets c = record {
  name = held names sets c.name;
  means = means_of names (macro_named c.name.token.text macros);
  hide = hidden names sets c.hide;
  raw = all_args names sets c.raw;
  done = all_args names sets c.done;
  out = all_held names sets c.out;
  more = c.more;
}

-- calls, of which the innermost is the last, with their texts, the innermost first
abbrev pub waiting : List Text → Macros → Sets → List Call → List Waiting
waiting names macros sets calls = reverse (map {A = Call} (waiting_of names macros sets) calls)

-- how many ends the calls wait for
abbrev pub total : List Call → ℕ
total [] = 0
total (c ∷ cs) = 1 + c.more + total cs

-- What the machine still gives, where more tokens come behind those that it was fed.
abbrev pub still : List Text → Macros → Machine → List Token → Answer (List Token)
still names macros m more =
    goes_on (table_of names macros (text_of names m.file)) (waiting names macros m.sets m.frames.items) (pieces names m.sets m.slots.items ++ before more []) (LIMIT - m.used)

-- What it gives next, up to the next token of the result.
abbrev pub ahead : List Text → Macros → Machine → List Token → Answer (Option Next)
ahead names macros m more =
    goes_on_by (next_token (table_of names macros (text_of names m.file))) (table_of names macros (text_of names m.file)) (waiting names macros m.sets m.frames.items)
    (pieces names m.sets m.slots.items ++ before more []) (LIMIT - m.used)

-- The tables hold what the call is made of.
pub record IsCallHeld (names : List Text) (macros : Macros) (sets : Sets) (c : Call) : Type 0 where
  pub name : IsKnown names sets c.name
  pub hide : c.hide < length sets
  pub raw : All (AreKnown names sets) c.raw
  pub done : All (AreKnown names sets) c.done
  pub out : AreKnown names sets c.out
  pub macro : (m : Macro) × (macro_named c.name.token.text macros ≡ Some m)

-- Its arguments are wanted where its macro takes them expanded.
pub record IsCallKnown (names : List Text) (macros : Macros) (sets : Sets) (c : Call) : Type 0 where
  pub holds : IsCallHeld names macros sets c
  pub wanted : (i : ℕ) → i ≤ length c.done + c.more → slice_index_or c.wanted i false ≡ is_wanted (means_of names (macro_named c.name.token.text macros)) i

-- The tables hold what the machine is made of, and each argument of a call that waits has its end.
pub record IsMachine (names : List Text) (macros : Macros) (m : Machine) : Type 0 where
  pub tables : AreTables names m.sets
  pub slots : AreSlotsKnown names m.sets m.slots.items
  pub calls : All (IsCallKnown names macros m.sets) m.frames.items
  pub watched : IsNamed names m.notes.from × IsNamed names m.notes.to
  pub file : IsNamed names m.file
  pub ends : ends m.slots.items ≡ total m.frames.items
  pub limit : m.used ≤ LIMIT

-- how many uses of a rule are among the events
abbrev pub uses : List Event → ℕ
uses [] = 0
uses (Rule ∷ events) = 1 + uses events
uses (Taken text place role ∷ events) = uses events

-- A use of a rule tells that it was used last.
abbrev pub EndsWithRule : List Event → Type 0
EndsWithRule events = (roles : List Event) × (events ≡ roles ++ Rule ∷ [])

-- Exactly one use of a rule leads from one machine to another, and gives these tokens of the result; its events are noted.
pub record IsUse (names new : List Text) (macros : Macros) (old now : Machine) (more out : List Token) : Type 0 where
  pub events : List Event
  pub one : uses events ≡ 1
  pub last : EndsWithRule events
  pub goes : still names macros old more ≡ leads out events (still new macros now more)
  pub seen : now.notes.seen.items ≡ old.notes.seen.items ++ noted (watch_of names old.notes) events

-- What is put in for a name, before these slots.
pub record IsPut (names new : List Text) (old now : Machine) (work : Work (List Token)) (rest : List Slot) : Type 0 where
  pub list : List Held
  pub events : List Event
  pub one : uses events ≡ 1
  pub last : EndsWithRule events
  pub gives : work (LIMIT - old.used) ≡ Gave (all_held new now.sets list) (LIMIT - now.used) events
  pub seen : now.notes.seen.items ≡ old.notes.seen.items ++ noted (watch_of names old.notes) events
  pub slots : now.slots.items ≡ tokens list ++ rest
  pub known : AreKnown new now.sets list
  pub tables : AreTables new now.sets
  pub names_grow : Grows names new
  pub sets_grow : Grows old.sets now.sets
  pub limit : now.used ≤ LIMIT

-- What no use changes.
abbrev pub IsSameRun : Machine → Machine → Type 0
IsSameRun old now = (now.notes.from ≡ old.notes.from) × (now.notes.to ≡ old.notes.to) × (now.file ≡ old.file) × (now.finished ≡ old.finished)

-- A token is given: it is one of the result where no call waits, and else one of the innermost call's argument.
abbrev pub IsGiven : List Call → Held → List Call → ExpStep → Type 0
IsGiven old h now (step.Out t) = (old ≡ []) × (now ≡ []) × (t ≡ h.token)
IsGiven old h now step.More = (cs : List Call) × (c : Call) × (old ≡ cs ++ c ∷ []) × (now ≡ cs ++ (record c { out = c.out ++ h ∷ [] }) ∷ [])
IsGiven old h now step.Hungry = ⊥
IsGiven old h now step.End = ⊥

-- Nothing is changed but what is left and the calls.
abbrev pub IsSameElsewhere : Machine → Machine → Type 0
IsSameElsewhere old now = IsSameRun old now × (now.sets ≡ old.sets) × (now.notes.seen.items ≡ old.notes.seen.items) × (now.used ≡ old.used)

-- A predefined macro's token is given.
pub record IsPredefinedUse (names new : List Text) (old now : Machine) (h : Held) (given : PpKind × Text) (s : ExpStep) : Type 0 where
  pub one : Held
  pub made : held new old.sets one ≡ Substitution.made (held names old.sets h) given.0 given.1 h.token.space []
  pub known : IsKnown new old.sets one
  pub gives : IsGiven old.frames.items one now.frames.items s
  pub seen : now.notes.seen.items ≡ old.notes.seen.items ++ noted (watch_of names old.notes) (takes MacroName (held names old.sets h))
  pub used : now.used ≡ old.used + 2
  pub limit : now.used ≤ LIMIT
  pub grows : Grows names new
  pub distinct : IsDistinct new

-- A call's first two slots are its name and `(`, and its `)` is at this place.
abbrev pub IsClosedAt : List Slot → ℕ → Type 0
IsClosedAt slots n =
    (a b : Slot) × (inside : List Held) × (closes : Held) × (rest : List Slot) × (slots ≡ a ∷ b ∷ (tokens inside ++ slot.Token closes ∷ rest)) × (n ≡ 2 + length inside)

-- The arguments of a call are the lists between its commas; but the variable one may be missing, and where no argument is
-- wanted, none stands there.
abbrev pub AreArguments : List (List Held) → List (List Held) → Type 0
AreArguments args lists = (args ≡ lists) ⊎ ((args ≡ lists ++ [] ∷ []) ⊎ ((args ≡ []) × (lists ≡ [] ∷ [])))

-- A call is entered.
pub record IsEntered (names : List Text) (old now : Machine) (h : Held) (m : Macro) (params : List Name) (inside : List Held) (closes : Held) (rest : List Slot) : Type 0 where
  pub lists : List (List Held)
  pub all : List (List Held)
  pub call : Call
  pub frames : now.frames.items ≡ old.frames.items ++ call ∷ []
  pub name : call.name ≡ h
  pub done : call.done ≡ []
  pub out : call.out ≡ []
  pub count : length lists ≡ suc call.more
  pub all_are : AreArguments all lists
  pub args : arguments (map (text_of names) params) m.variadic (all_held names old.sets inside) ≡ Some (all_args names old.sets all)
  pub raw : call.raw ≡ all_kept (is_whole (macro_text names m)) 0 all
  pub among : All (All (IsAmong inside)) lists
  pub size : length (ended lists) ≡ suc (length inside)
  pub places : (n : ℕ) × (ended lists ≡ parted_slots names n 0 inside ++ slot.End ∷ [])
  pub hide : hidden names now.sets call.hide ≡ with_name (text_of names h.token.text) (both (hidden names old.sets h.hide.0) (hidden names old.sets closes.hide.0))
  pub hide_known : call.hide < length now.sets
  pub wanted : (i : ℕ) → i ≤ call.more → slice_index_or call.wanted i false ≡ is_wanted (macro_text names m) i
  pub slots : now.slots.items ≡ begun (is_wanted (macro_text names m) 0) (ended lists ++ rest)
  pub sets_grow : Grows old.sets now.sets
  pub tables : AreTables names now.sets

-- an argument is expanded
abbrev pub done_call : Call → Call
done_call c = record c { done = c.done ++ c.out ∷ []; out = [] }

-- and the next one is begun
abbrev pub next_call : Call → Call
next_call c = record c { done = c.done ++ c.out ∷ []; out = []; more = c.more - 1 }

-- what is put in for a call of which all arguments are expanded
abbrev pub put_for_call : List Text → Macros → Sets → Call → Work (List Token)
put_for_call names macros sets c =
    put_for (held names sets c.name) (means_of names (macro_named c.name.token.text macros)) (all_args names sets c.raw) (all_args names sets c.done) (hidden names sets c.hide)

-- The names hold what a macro is made of, and its body has at most 33,554,432 tokens.
abbrev pub IsGoodMacro : List Text → Macro → Type 0
IsGoodMacro names m = IsMacroKnown names m × (length m.body ≤ 33554432)

-- So it is with each macro that is defined.
pub record AreMacros (names : List Text) (macros : Macros) : Type 0 where
  pub known : (n : Name) (m : Macro) → macro_named n macros ≡ Some m → IsNamed names n × IsGoodMacro names m

-- The arguments of a call, as they are, of which what is wanted is kept, and how many lists come behind the first.
pub record AreTaken (names : List Text) (now : List Slot) (m : Macro) (params : List Name) (a b : Slot) (inside : List Held) (rest : List Slot) (whole : ℕ → Bool) (raw : List (List Held)) (more : ℕ) : Type 0 where
  pub lists : List (List Held)
  pub all : List (List Held)
  pub slots : now ≡ a ∷ b ∷ (ended lists ++ rest)
  pub count : length lists ≡ suc more
  pub all_are : AreArguments all lists
  pub args : (sets : Sets) → arguments (map (text_of names) params) m.variadic (all_held names sets inside) ≡ Some (all_args names sets all)
  pub raw_are : raw ≡ all_kept whole 0 all
  pub few : (length all ≤ length params + 1) × (more ≤ length params)
  pub among : All (All (IsAmong inside)) lists
  pub size : length (ended lists) ≡ suc (length inside)
  pub places : (n : ℕ) × (ended lists ≡ parted_slots names n 0 inside ++ slot.End ∷ [])

-- Why the arguments aren't taken.
abbrev pub IsMiscounted : List Text → Macro → List Name → List Held → Held → ExpandFault → Type 0
IsMiscounted names m params inside h e =
    (e ≡ fault.OutOfMemory) ⊎ ((e ≡ fault.ArgCount h.token.site) × ((sets : Sets) → arguments (map (text_of names) params) m.variadic (all_held names sets inside) ≡ None))

-- An argument ended: the next one was begun, or what stands for the call was put in.
abbrev pub IsArgumentEnd : List Text → List Text → Macros → Machine → Machine → List Slot → Option ExpStep → Type 0
IsArgumentEnd names new macros old now rest None =
    (cs : List Call) × (c : Call) × (old.frames.items ≡ cs ++ c ∷ []) × (0 < c.more) × (now.frames.items ≡ cs ++ next_call c ∷ [])
    × (now.slots.items ≡ begun (slice_index_or c.wanted (length c.done + 1) false) rest)
    × (now.sets ≡ old.sets) × (now.notes.seen.items ≡ old.notes.seen.items) × (now.used ≡ old.used) × (new ≡ names)
IsArgumentEnd names new macros old now rest (Some s) =
    (cs : List Call) × (c : Call) × (old.frames.items ≡ cs ++ c ∷ []) × (c.more ≡ 0) × (now.frames.items ≡ cs)
    × IsPut names new old now (put_for_call names macros old.sets (done_call c)) rest × (s ≡ step.More)

-- Why it didn't.
abbrev pub IsArgumentFault : List Text → Macros → Machine → ExpandFault → Type 0
IsArgumentFault names macros old e =
    (e ≡ fault.OutOfMemory)
    ⊎ ((cs : List Call) × (c : Call) × (old.frames.items ≡ cs ++ c ∷ []) × (c.more ≡ 0) × Faults (put_for_call names macros old.sets (done_call c) (LIMIT - old.used)) e)

abbrev pub BeginsWithEnd : List Slot → Type 0
BeginsWithEnd slots = (rest : List Slot) × (slots ≡ slot.End ∷ rest)

-- A step of the machine: a use of a rule, with the token of the result that it gives. Where a token is wanted nothing is
-- changed; at the end nothing is left.
abbrev pub IsStep : List Text → List Text → Macros → Machine → Machine → List Token → ExpStep → Type 0
IsStep names new macros old now more (step.Out t) = (hide : List Text) × IsUse names new macros old now more (token_of new hide t ∷ [])
IsStep names new macros old now more step.More = IsUse names new macros old now more []
IsStep names new macros old now more step.Hungry = (new ≡ names) × (now ≡ old)
IsStep names new macros old now more step.End = (new ≡ names) × (now ≡ old) × (still names macros old more ≡ Gave [] (LIMIT - old.used) [])

-- The same step, by the uses of rules up to the next token of the result: one that gives it leaves the list behind it to be
-- expanded, and one that gives none leads to what comes next.
abbrev pub IsAhead : List Text → List Text → Macros → Machine → Machine → List Token → ExpStep → Type 0
IsAhead names new macros old now more (step.Out t) =
    (hide : List Text) × (u : IsUse names new macros old now more (token_of new hide t ∷ [])) × (rest : List Token)
    × (ahead names macros old more ≡ Gave (Some (record { tokens = token_of new hide t ∷ []; rest = rest })) (LIMIT - now.used) u.events)
    × (ahead new macros now more ≡ next_token (table_of new macros (text_of new now.file)) rest (LIMIT - now.used))
IsAhead names new macros old now more step.More = (u : IsUse names new macros old now more []) × (ahead names macros old more ≡ after u.events (ahead new macros now more))
IsAhead names new macros old now more step.Hungry = (new ≡ names) × (now ≡ old)
IsAhead names new macros old now more step.End = (new ≡ names) × (now ≡ old) × (ahead names macros old more ≡ Gave None (LIMIT - old.used) [])

-- A call was entered or an argument ended, by which nothing is given; or a step was made.
abbrev pub IsTurnStep : List Text → List Text → Macros → Machine → Machine → List Token → Option ExpStep → Type 0
IsTurnStep names new macros old now more None =
    (still names macros old more ≡ still new macros now more) × (now.notes.seen.items ≡ old.notes.seen.items) × (ahead names macros old more ≡ ahead new macros now more)
IsTurnStep names new macros old now more (Some s) = IsStep names new macros old now more s × IsAhead names new macros old now more s

-- The work stopped by the cause that the fault tells, before any use of a rule was made; or there was no memory.
abbrev pub FaultsAtOnce : {A : Type 0} → Answer A → ExpandFault → Type 0
FaultsAtOnce (Gave a left events) e = e ≡ fault.OutOfMemory
FaultsAtOnce (Stopped cause stopped) e = (IsCause cause e × (uses stopped ≡ 0)) ⊎ (e ≡ fault.OutOfMemory)

-- The next use of a rule meets the fault, in the expansion, and before the next token of its result.
abbrev pub BothFault : List Text → Macros → Machine → List Token → ExpandFault → Type 0
BothFault names macros m more e = FaultsAtOnce (still names macros m more) e × FaultsAtOnce (ahead names macros m more) e

-- The next use of a rule can't be told without a token that may come: no call waits, and no more were said to be the last.
abbrev pub WantsMore : List Text → Macros → Machine → Type 0
WantsMore names macros m =
    (m.finished ≡ false) × (m.frames.items ≡ []) × (needs_more (table_of names macros (text_of names m.file)) (current (pieces names m.sets m.slots.items)) ≡ true)

-- A token is wanted only there, and the end is only where all is used.
abbrev pub IsWantedAt : List Text → Macros → Machine → ExpStep → Type 0
IsWantedAt names macros m (step.Out t) = Unit {0}
IsWantedAt names macros m step.More = Unit {0}
IsWantedAt names macros m step.Hungry = WantsMore names macros m
IsWantedAt names macros m step.End = (m.finished ≡ true) × (m.frames.items ≡ []) × (m.slots.items ≡ [])

-- the same at a turn; a turn that makes no step leaves a call that waits
abbrev pub IsTurnWanted : List Text → List Text → Macros → Machine → Machine → Option ExpStep → Type 0
IsTurnWanted names new macros old now None = (0 < ends now.slots.items) × (new ≡ names)
IsTurnWanted names new macros old now (Some s) = IsWantedAt names macros old s

-- The token of the result that is given has a name that the table holds.
abbrev pub IsOutKnown : List Text → ExpStep → Type 0
IsOutKnown names (step.Out t) = IsNamed names t.text
IsOutKnown names step.More = Unit {0}
IsOutKnown names step.Hungry = Unit {0}
IsOutKnown names step.End = Unit {0}
