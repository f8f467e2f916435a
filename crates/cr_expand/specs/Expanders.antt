-- The machine of macro expansion, as its callers see it: what is left of the expansion of what it was fed and will be fed.
use Rattle.std.specs.Prelude.{◌≡◌, ℕ, ◌-◌, true, false, List, [], ◌∷◌, ◌++◌, map, Option, Some, None}
use Rattle.std.specs.List.{All}
use Rattle.cr_base.specs.NameTable.{IsDistinct}
use Rattle.cr_base.specs.declared.token.Name.{Name}
use Rattle.cr_base.specs.declared.token.PpTok.{PpTok}
use Rattle.cr_macros.specs.declared.fault.ExpandFault.{ExpandFault}
use Rattle.cr_expand.specs.declared.machine.Machine.{Machine}
use Rattle.cr_expand.specs.declared.machine.ExpStep.{ExpStep}
use Rattle.cr_expand.specs.declared.machine.ExpStep.TheVariants as step
use Rattle.cr_expand.specs.declared.machine.TheConstants.{LIMIT}
use Rattle.cr_expand.specs.declared.expander.Expander.{Expander}
use Rattle.cr_expand.specs.declared.closing.Ahead.{Ahead}
use Rattle.cr_expand.specs.Calls.{IsSearched}
use Rattle.cr_expand.specs.Groups.{AreNoted}
use Rattle.cr_macros.specs.Tokens.{Text, Token, tokens_of, Event, Answer, Gave}
use Rattle.cr_macros.specs.Definition.{text_of}
use Rattle.cr_macros.specs.Expansion.{expand}
use Rattle.cr_macros.specs.MacroTables.{Macros, table_of}
use Rattle.cr_expand.specs.HideSets.{Grows}
use Rattle.cr_expand.specs.Held.{IsNamed, watch_of, noted}
use Rattle.cr_expand.specs.Items.{IsTokenNamed}
use Rattle.cr_expand.specs.Ahead.{next_token}
use Rattle.cr_expand.specs.Machines.{still, ahead, IsMachine, AreMacros, IsSameRun, IsStep}

-- What is left of the expansion, where these tokens come behind what was fed.
abbrev pub left_over : List Text → Macros → Expander → List Token → Answer (List Token)
left_over names macros e more = still names macros e.machine more

abbrev pub runs_by : List Text → Macros → Machine → Ahead → Option ExpandFault → Type 0
runs_by names macros m ahead None = IsMachine names macros m × IsSearched names m.slots.items ahead.search × AreNoted names m.slots.items ahead.groups.items
runs_by names macros m ahead (Some fault) = Unit {0}

-- The tables gave what the machine holds, and what it knows of the slots ahead is right, unless it has met a fault.
abbrev pub IsRunning : List Text → Macros → Expander → Type 0
IsRunning names macros e = runs_by names macros e.machine e.ahead e.fault

-- A machine that was fed nothing: what is left is the expansion of what comes, with the work that is left, and its next token is
-- that of what comes.
pub record IsFresh (old new file : Name) (work : ℕ) (e : Expander) : Type 0 where
  pub gives : (names : List Text) (macros : Macros) (more : List Token) → left_over names macros e more ≡ expand (table_of names macros (text_of names file)) more (LIMIT - work)
  pub finds : (names : List Text) (macros : Macros) (more : List Token) → ahead names macros e.machine more ≡ next_token (table_of names macros (text_of names file)) more (LIMIT - work)
  pub running : (names : List Text) (macros : Macros) → IsDistinct names → IsNamed names old → IsNamed names new → IsNamed names file → IsRunning names macros e
  pub seen : e.machine.notes.seen.items ≡ []
  pub watched : (e.machine.notes.from ≡ old) × (e.machine.notes.to ≡ new)
  pub literal : e.machine.file ≡ file
  pub used : e.machine.used ≡ work
  pub finished : e.machine.finished ≡ false
  pub fault : e.fault ≡ None

-- Tokens were fed: they come before what else will come, and nothing else is changed.
pub record IsFed (old now : Expander) (tokens : List PpTok) : Type 0 where
  pub gives : (names : List Text) (macros : Macros) (more : List Token) → left_over names macros now more ≡ left_over names macros old (tokens_of names tokens ++ more)
  pub finds : (names : List Text) (macros : Macros) (more : List Token) → ahead names macros now.machine more ≡ ahead names macros old.machine (tokens_of names tokens ++ more)
  pub running : (names : List Text) (macros : Macros) → IsRunning names macros old → All (IsTokenNamed names) tokens → IsRunning names macros now
  pub seen : now.machine.notes.seen.items ≡ old.machine.notes.seen.items
  pub used : now.machine.used ≡ old.machine.used
  pub same : IsSameRun old.machine now.machine
  pub fault : now.fault ≡ old.fault

-- A step was made, whatever comes.
abbrev pub Steps : List Text → List Text → Macros → Expander → Expander → ExpStep → Type 0
Steps names new macros old now s =
    ((more : List Token) → (old.machine.finished ≡ true → more ≡ []) → IsStep names new macros old.machine now.machine more s)
    × Grows names new × IsSameRun old.machine now.machine

-- Where names are put into the table between two steps, a machine that has met no fault runs on, and the same is left.
pub record RunsOn : Type 0 where
  pub running : (names new : List Text) (macros : Macros) (e : Expander) → Grows names new → IsDistinct new → AreMacros names macros → IsRunning names macros e → IsRunning new macros e
  pub gives : (names new : List Text) (macros : Macros) (e : Expander) (more : List Token) → Grows names new → AreMacros names macros → IsRunning names macros e → e.fault ≡ None → left_over new macros e more ≡ left_over names macros e more

-- a token without its hide set
abbrev pub plain : Token → Token
plain t = record t { hide = [] }

-- A machine is fed, stepped and told that no more comes, in any order and in pieces of any size, and names are put into the
-- table in between: the tokens that it was fed and those that it gave out so far.
pub data Run (macros : Macros) (names : List Text) (first : Expander) : List Text → Expander → List Token → List Token → Type 0 where
  Begins : Run macros names first names first [] []
  Fed : {at : List Text} {e : Expander} {fed out : List Token} → Run macros names first at e fed out
      → (tokens : List PpTok) (now : Expander) → e.machine.finished ≡ false → IsFed e now tokens → Run macros names first at now (fed ++ tokens_of at tokens) out
  Gives : {at : List Text} {e : Expander} {fed out : List Token} → Run macros names first at e fed out
      → (t : PpTok) (new : List Text) (now : Expander) → Steps at new macros e now (step.Out t) → Run macros names first new now fed (out ++ tokens_of new (t ∷ []))
  Goes : {at : List Text} {e : Expander} {fed out : List Token} → Run macros names first at e fed out
      → (new : List Text) (now : Expander) → Steps at new macros e now step.More → Run macros names first new now fed out
  Grown : {at : List Text} {e : Expander} {fed out : List Token} → Run macros names first at e fed out
      → (new : List Text) → Grows at new → AreMacros at macros → IsRunning at macros e → e.fault ≡ None → Run macros names first new e fed out
  Finishes : {at : List Text} {e : Expander} {fed out : List Token} → Run macros names first at e fed out
      → (now : Expander) → now ≡ record e { machine = record e.machine { finished = true } } → Run macros names first at now fed out

-- However a list was cut into pieces and fed, a machine that has come to its end has given out the tokens of the list's
-- expansion, noted its roles and used its work.
abbrev pub GivesTheExpansion : Type 0
GivesTheExpansion =
    (macros : Macros) (names at new : List Text) (old_name new_name file : Name) (work : ℕ) (first e now : Expander) (fed out : List Token)
    → IsFresh old_name new_name file work first → IsNamed names old_name → IsNamed names new_name
    → Run macros names first at e fed out → Steps at new macros e now step.End
    → (given : List Token) × (events : List Event)
    × (expand (table_of names macros (text_of names file)) fed (LIMIT - work) ≡ Gave given (LIMIT - e.machine.used) events)
    × (map plain given ≡ out) × (e.machine.notes.seen.items ≡ noted (watch_of names first.machine.notes) events)
