-- What the facts of the files tell of an entity of the source. No contract of a public call cites it.
use Rattle.std.specs.Prelude.{ℕ, ◌≡◌, ◌≢◌, ◌<◌, ◌≤◌, false, List, [], ◌∷◌, length, Option, Some, None}
use Rattle.std.specs.FinSet.{contains}
use Rattle.cr_base.specs.Substitution.{Rise}
use Rattle.cr_small.specs.Keys.{Key}
use Rattle.cr_facts.specs.FactOrder.{Facts}
use Rattle.cr_facts.specs.declared.fact.Fact.TheVariants as fact
use Rattle.cr_small_facts.specs.TextFacts.{place, key_over}
use Rattle.cr_small_facts.specs.Places.{ArePlaces}
use Rattle.cr_run.specs.declared.survey.Surveyed.{Surveyed}
use Rattle.cr_run.specs.declared.survey.Finding.{Finding}
use Rattle.cr_run.specs.declared.survey.Survey.{Survey}

-- of the file of a number they tell these places; the source, whose key it is, has number 0
abbrev pub TellsPlaces : Facts → ℕ → List ℕ → Option Key → Type 0
TellsPlaces facts number places None = Unit {0}
TellsPlaces facts number places (Some key) = ArePlaces facts number (key_over 0 key) places

-- they tell no place of the file of a number
abbrev pub TellsNone : Facts → ℕ → Option Key → Type 0
TellsNone facts number None = Unit {0}
TellsNone facts number (Some key) = (offset : ℕ) → contains facts (fact.Denotes (place number offset) (key_over 0 key)) ≡ false

-- the facts tell places of a file, of which this holds; its number isn't beyond the last one
pub record IsTold (P : List ℕ → Surveyed → List ℕ → Type 0) (key : Option Key) (facts : Facts) (last : ℕ) (path : List ℕ) (s : Surveyed) : Type 0 where
  pub numbered : s.number ≤ last
  pub places : List ℕ
  pub told : TellsPlaces facts s.number places key
  pub holds : P path s places

abbrev pub AreTold : (List ℕ → Surveyed → List ℕ → Type 0) → Option Key → Facts → ℕ → List (List ℕ × Surveyed) → Type 0
AreTold P key facts last [] = Unit {0}
AreTold P key facts last (e ∷ es) = IsTold P key facts last e.0 e.1 × AreTold P key facts last es

-- the facts tell the places of each file that was numbered, and of none besides
pub record IsTable (P : List ℕ → Surveyed → List ℕ → Type 0) (key : Option Key) (s : Survey) : Type 0 where
  pub told : AreTold P key s.facts s.last s.files.entries
  pub fresh : (n : ℕ) → s.last < n → TellsNone s.facts n key

-- the facts of one file tell its places, and of no other file
pub record IsFinding (P : List ℕ → Surveyed → List ℕ → Type 0) (key : Option Key) (number : ℕ) (path : List ℕ) (f : Finding) : Type 0 where
  pub numbered : f.file.number ≡ number
  pub places : List ℕ
  pub told : TellsPlaces f.facts number places key
  pub holds : P path f.file places
  pub own : (n : ℕ) → n ≢ number → TellsNone f.facts n key

-- the places rise in the bytes that are kept, by the length of the old name at least
abbrev pub RisesIn : List ℕ → List ℕ → Surveyed → List ℕ → Type 0
RisesIn old path s places = Rise 0 places (length old) (length s.bytes)
