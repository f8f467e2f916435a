-- The states of a unit's preprocessing, one for each of its steps.
use Rattle.std.specs.Prelude.{◌≡◌, ◌⊎◌, ◌++◌, ℕ, zero, suc, Bool, true, false, if◌then◌else◌, List, [], ◌∷◌, flat_map, count_by}
use Rattle.cr_base.specs.declared.unit.Unit.{Unit}
use Rattle.cr_macros.specs.Tokens.{Text, Token, Event as Telling, Rule, Taken}
use Rattle.cr_snapshot.specs.Files.{Unknown}
use Rattle.cr_phase4.specs.Tasks.{Reply, End, Ill, Over, Needs, Goes, Ends, Nothing, Event, Took, Opened, Looked, Defined, Told, Final, events_of}
use Rattle.cr_snapshot.specs.declared.known.KnownFile.{KnownFile}
use Rattle.cr_phase4.specs.Search.{World, world_of}
use Rattle.cr_phase4.specs.Preprocessing.{preprocessed}

abbrev pub is_rule : Telling → Bool
is_rule Rule = true
is_rule (Taken text place role) = false

-- A step takes a preprocessing token from a file, or uses a rule of expansion.
abbrev pub is_step : Event → Bool
is_step Took = true
is_step (Opened path) = false
is_step (Looked paths) = false
is_step (Defined t m) = false
is_step (Told e) = is_rule e
is_step (Final t) = false

abbrev pub steps : List Event → ℕ
steps = count_by is_step

-- what happens before the step behind n steps
abbrev pub up_to : ℕ → List Event → List Event
up_to n [] = []
up_to zero (e ∷ events) = if is_step e then [] else e ∷ up_to zero events
up_to (suc n) (e ∷ events) = e ∷ up_to (if is_step e then n else suc n) events

-- A state of a unit's run is all that has happened; its position is the number of steps made.
abbrev pub state_at : World → Unit → ℕ → List Event
state_at w u position = up_to position (events_of (preprocessed w u))

-- how many steps there are to the end
abbrev pub last_position : World → Unit → ℕ
last_position w u = steps (events_of (preprocessed w u))

-- the final tokens
abbrev pub final_of : Event → List Token
final_of Took = []
final_of (Opened path) = []
final_of (Looked paths) = []
final_of (Defined t m) = []
final_of (Told e) = []
final_of (Final t) = t ∷ []

abbrev pub final_tokens : List Event → List Token
final_tokens = flat_map final_of

-- v knows all that w knows, with the same finding and number
pub record Agrees (w v : World) : Type 0 where
  pub known : (path : Text) → (w.find path ≡ Unknown) ⊎ ((v.find path ≡ w.find path) × (v.number path ≡ w.number path))

abbrev pub IsLargerEnd : End → List Event → Reply Nothing → Type 0
IsLargerEnd (Ill why site) events reply = reply ≡ Ends (Ill why site) events
IsLargerEnd (Over limit) events reply = reply ≡ Ends (Over limit) events
IsLargerEnd (Needs paths) events reply = (more : List Event) × (events_of reply ≡ events ++ more)

-- the same, or where files were wanted the same first
abbrev pub IsLarger : Reply Nothing → Reply Nothing → Type 0
IsLarger (Goes d s events) reply = reply ≡ Goes d s events
IsLarger (Ends end events) reply = IsLargerEnd end events reply

-- Where more is known, a unit that wanted no file does the same, and one that wanted files does the same first: its
-- states are the same at the same positions.
abbrev pub GoesOn : Type 0
GoesOn = (w v : World) (u : Unit) → Agrees w v → IsLarger (preprocessed w u) (preprocessed v u)

-- A snapshot of which one more file is known knows what it knew.
abbrev pub SnapshotsAgree : Type 0
SnapshotsAgree = (files : List KnownFile) (file : KnownFile) → Agrees (world_of files) (world_of (files ++ file ∷ []))
