-- What the machine's tokens, with names and hide sets by number, stand for.
use Rattle.std.specs.Prelude.{◌≡◌, ℕ, ◌<◌, ◌||◌, if◌then◌else◌, List, [], ◌∷◌, ◌++◌, length, map, flat_map, bytes_eq, ◌⊎◌}
use Rattle.std.specs.List.{All}
use Rattle.cr_base.specs.declared.token.Name.{Name}
use Rattle.cr_base.specs.NameTable.{IsDistinct}
use Rattle.cr_macros.specs.declared.macros.Seen.{Seen}
use Rattle.cr_expand.specs.declared.held.Held.{Held}
use Rattle.cr_expand.specs.declared.notes.Notes.{Notes}
use Rattle.cr_macros.specs.declared.fault.ExpandFault.{ExpandFault}
use Rattle.cr_macros.specs.declared.fault.ExpandFault.TheVariants as fault
use Rattle.cr_macros.specs.Tokens.{Text, Token, token_of, Event, Rule, Taken, Answer, Gave, Stopped, Work, Cause, ArgCount, OpenCall, BadPaste, Over}
use Rattle.cr_macros.specs.Definition.{text_of}
use Rattle.cr_expand.specs.HideSets.{Sets, set_at}

-- the texts of a hide set
abbrev pub hidden : List Text → Sets → ℕ → List Text
hidden names sets n = map (text_of names) (set_at sets n)

-- a token with its text and the texts that are hidden from it
abbrev pub held : List Text → Sets → Held → Token
held names sets h = token_of names (hidden names sets h.hide.0) h.token

abbrev pub all_held : List Text → Sets → List Held → List Token
all_held names sets = map {A = Held} (λ h. held names sets h)

abbrev pub IsNamed : List Text → Name → Type 0
IsNamed names name = name.0 < length names

-- The tables hold the token's name and hide set.
abbrev pub IsKnown : List Text → Sets → Held → Type 0
IsKnown names sets h = IsNamed names h.token.text × (h.hide.0 < length sets)

abbrev pub AreKnown : List Text → Sets → List Held → Type 0
AreKnown names sets hs = All (IsKnown names sets) hs

-- No two names have one text, and the hide sets are of names that are known.
pub record AreTables (names : List Text) (sets : Sets) : Type 0 where
  pub distinct : IsDistinct names
  pub named : All (λ set. All (IsNamed names) set) sets
  pub first : set_at sets 0 ≡ []
  pub some : 0 < length sets

-- the texts whose places are noted
pub record Watch : Type 0 where
  pub from : Text
  pub to : Text

abbrev pub watch_of : List Text → Notes → Watch
watch_of names n = record { from = text_of names n.from; to = text_of names n.to }

abbrev pub noted_one : Watch → Event → List Seen
noted_one w Rule = []
noted_one w (Taken text place role) = if bytes_eq text w.from || bytes_eq text w.to then record { place = place; role = role } ∷ [] else []

-- what is noted of the events
abbrev pub noted : Watch → List Event → List Seen
noted w = flat_map (noted_one w)

-- The work gave this value and left this much work, and its events are noted behind those before.
abbrev pub Tells : {A : Type 0} → Watch → List Seen → List Seen → Answer A → A → ℕ → Type 0
Tells w before now (Gave a left events) value rest = (a ≡ value) × (left ≡ rest) × (now ≡ before ++ noted w events)
Tells w before now (Stopped cause stopped) value rest = ⊥

-- The cause is what the fault tells.
abbrev pub IsCause : Cause → ExpandFault → Type 0
IsCause (ArgCount site) e = e ≡ fault.ArgCount site
IsCause (OpenCall site) e = e ≡ fault.OpenCall site
IsCause (BadPaste site) e = e ≡ fault.BadPaste site
IsCause Over e = e ≡ fault.LimitMacros

-- The work stopped by the cause that the fault tells, or there was no memory.
abbrev pub Faults : {A : Type 0} → Answer A → ExpandFault → Type 0
Faults (Gave a left events) e = e ≡ fault.OutOfMemory
Faults (Stopped cause stopped) e = IsCause cause e ⊎ (e ≡ fault.OutOfMemory)

-- The work gave this value, and its events are noted behind those before, whatever work is left, which stays.
pub record Does {A : Type 0} (w : Watch) (before now : List Seen) (m : Work A) (value : A) : Type 0 where
  pub at : (left : ℕ) → Tells w before now (m left) value left

-- The work stops by the cause that the fault tells, or there was no memory, whatever work is left.
pub record Stops {A : Type 0} (m : Work A) (e : ExpandFault) : Type 0 where
  pub at : (left : ℕ) → Faults (m left) e

-- lists of tokens, as the arguments of a call
abbrev pub all_args : List Text → Sets → List (List Held) → List (List Token)
all_args names sets = map (all_held names sets)
