-- What the code holds of the files that it has read. No contract of a public call cites it.
use Rattle.std.specs.Prelude.{ℕ, ◌+◌, ◌≡◌, ◌⊎◌, ◌<◌, ◌≤◌, true, false, List, [], ◌∷◌, length, bytes_eq, ◌==◌, if◌then◌else◌, Option, Some, None, Result, Ok, Err}
use Rattle.std.specs.Option.{option_map, option_or}
use Rattle.std.specs.List.{list_any}
use Rattle.std.specs.FinSet.{union}
use Rattle.std.specs.BTreeMap.{keys, insert_entry}
use Rattle.std.specs.Ordering.{nat_cmp}
use Rattle.std.specs.Cmp.Lexicographic.{slice_cmp}
use Rattle.cr_base.specs.declared.unit.Unit.{Unit as TranslationUnit}
use Rattle.cr_world.specs.Outside.{Files}
use Rattle.cr_small.specs.Keys.{Key, external, at}
use Rattle.cr_small.specs.Seen.{key_of_code}
use Rattle.cr_run.specs.Survey.{Meaning, files_so_far, total_size, is_over, is_clear_file, key_in, places_in_file, unspellable_in_file, unspellable, size_of, refusal_of_units}
use Rattle.cr_run.specs.Refusals.{IfDecided, refused_of}
use Rattle.cr_small.specs.Renaming.{Target}
use Rattle.cr_run.specs.Goal.{Goal, Refused}
use Rattle.cr_run.specs.declared.survey.Sought.{Sought}
use Rattle.cr_run.specs.Table.{IsTable, IsFinding, RisesIn}
use Rattle.cr_run.specs.declared.survey.Surveyed.{Surveyed}
use Rattle.cr_run.specs.declared.survey.Finding.{Finding}
use Rattle.cr_run.specs.declared.survey.Survey.{Survey}
use Rattle.cr_run.specs.declared.refusal.Refusal.{Refusal}
use Rattle.cr_run.specs.declared.refusal.Refusal.TheVariants as refusal

-- what is sought in the files
pub record Wanted : Type 0 where
  pub source : List ℕ
  pub key : Option Key
  pub new : List ℕ

abbrev pub wanted_of : Sought → Wanted
wanted_of s = record { source = s.source.now; key = option_map key_of_code s.key; new = s.new.now }

abbrev pub key_at : Wanted → List ℕ → Option Key → Option Key
key_at wanted path None = None
key_at wanted path (Some key) = key_in wanted.source key path

-- the key in the file of a number: an entity without external linkage stands in the source alone, which has number 0
abbrev pub key_in_file : ℕ → Option Key → Option Key
key_in_file number None = None
key_in_file number (Some (external name)) = Some (external name)
key_in_file number (Some (at offset)) = if number == 0 then Some (at offset) else None

-- a key of external linkage has this name
abbrev pub IsNamed : List ℕ → Option Key → Type 0
IsNamed old key = (name : List ℕ) → key ≡ Some (external name) → name ≡ old

-- a file as it was found
pub record IsSurveyed (meaning : Meaning) (wanted : Wanted) (path : List ℕ) (found : Option (List ℕ)) (s : Surveyed) : Type 0 where
  pub clear : s.clear ≡ is_clear_file meaning wanted.new found
  pub unspellable : s.unspellable ≡ unspellable_in_file meaning wanted.new (key_at wanted path wanted.key) found
  pub bytes : 0 < length (places_in_file meaning (key_at wanted path wanted.key) found) → found ≡ Some s.bytes

-- where an entity of the source stands in the file at a path
abbrev pub StandsAt : Meaning → Wanted → Files → List ℕ → Surveyed → List ℕ → Type 0
StandsAt meaning wanted files path s places = places ≡ places_in_file meaning (key_at wanted path wanted.key) (files path)

-- the file of a number, as it was found, and the facts that it tells
abbrev pub IsFound : Meaning → Wanted → List ℕ → Option (List ℕ) → ℕ → Finding → Type 0
IsFound meaning wanted path found number f = IsSurveyed meaning wanted path found f.file × IsFinding (StandsAt meaning wanted (λ p. found)) wanted.key number path f

abbrev pub AreSurveyed : Meaning → Wanted → Files → List (List ℕ × Surveyed) → Type 0
AreSurveyed meaning wanted files [] = Unit {0}
AreSurveyed meaning wanted files (e ∷ es) = IsSurveyed meaning wanted e.0 (files e.0) e.1 × AreSurveyed meaning wanted files es

-- the files that a run has come to, each as it was found, none over a limit, and the facts that they tell
pub record Holds (meaning : Meaning) (files : Files) (wanted : Wanted) (units : List TranslationUnit) (s : Survey) : Type 0 where
  pub paths : keys s.files ≡ files_so_far wanted.source units
  pub each : AreSurveyed meaning wanted files s.files.entries
  pub total : s.total ≡ total_size files (files_so_far wanted.source units)
  pub within : is_over files wanted.source units ≡ false
  pub table : IsTable (StandsAt meaning wanted files) wanted.key s

-- the refusal of the first of the files that has a place at which the new name can't be spelled
abbrev pub refusal_of_entries : List (List ℕ × Surveyed) → Option Refused
refusal_of_entries [] = None
refusal_of_entries (e ∷ es) = option_or (option_map (unspellable e.0) e.1.unspellable) (refusal_of_entries es)

-- a fact of a refusal by a limit of files, and none of any other that is decided
abbrev pub IfLimit : Type 0 → Refusal → Type 0
IfLimit P (refusal.Usage word) = ⊥
IfLimit P (refusal.Database text) = ⊥
IfLimit P (refusal.ReadFault path) = Unit {0}
IfLimit P refusal.NoSymbol = ⊥
IfLimit P (refusal.Reserved name) = ⊥
IfLimit P (refusal.Spelling place) = ⊥
IfLimit P refusal.OutOfMemory = Unit {0}
IfLimit P refusal.LimitUnits = ⊥
IfLimit P refusal.LimitFiles = P
IfLimit P (refusal.UnbuiltOption option) = ⊥
IfLimit P (refusal.Unbuilt path) = ⊥

-- the file at a path was put to the others, or they are over their limit together
abbrev pub Adds : List ℕ → Finding → ℕ → ℕ → Survey → Survey → Result (Unit {0}) Refusal → Type 0
Adds path found number size before now (Ok done) =
    (now.files.entries ≡ insert_entry (slice_cmp nat_cmp) before.files.entries path found.file) × (now.total ≡ before.total + size) × (before.total + size ≤ 536870912)
    × (now.last ≡ number) × (now.facts ≡ union before.facts found.facts)
Adds path found number size before now (Err r) = IfLimit (536870912 < before.total + size) r

-- the file at a path was put to the others, as it was found, or it is over a limit
abbrev pub Added : Meaning → Wanted → List ℕ → Option (List ℕ) → Survey → Survey → Result (Unit {0}) Refusal → Type 0
Added meaning wanted path file before now (Ok done) =
    (found : Finding) × IsFound meaning wanted path file (before.last + 1) found × Adds path found (before.last + 1) (size_of file) before now (Ok done)
    × (size_of file ≤ 16777216)
Added meaning wanted path file before now (Err r) = IfLimit ((16777216 < size_of file) ⊎ (536870912 < before.total + size_of file)) r

-- the survey holds the files of these units too, or they are over a limit
abbrev pub Met : Meaning → Files → Wanted → List TranslationUnit → Survey → Result (Unit {0}) Refusal → Type 0
Met meaning files wanted units s (Ok done) = Holds meaning files wanted units s
Met meaning files wanted units s (Err r) = IfLimit (is_over files wanted.source units ≡ true) r

-- the run has come to these paths
abbrev pub AllMet : List ℕ → List TranslationUnit → List (List ℕ) → Type 0
AllMet source units paths = (path : List ℕ) → list_any (bytes_eq path) paths ≡ true → list_any (bytes_eq path) (files_so_far source units) ≡ true

-- nothing refuses, or this does
abbrev pub Settled : Option Refused → Result (Unit {0}) Refusal → Type 0
Settled refusal (Ok done) = refusal ≡ None
Settled refusal (Err r) = IfDecided (refusal ≡ Some (refused_of r)) r

-- the survey holds the files of all units, and nothing refuses, or what does
abbrev pub Surveys : Meaning → Files → Wanted → List TranslationUnit → Survey → Result (Unit {0}) Refusal → Type 0
Surveys meaning files wanted units s (Ok done) = Holds meaning files wanted units s × (refusal_of_units meaning files wanted.source wanted.new units ≡ None)
Surveys meaning files wanted units s (Err r) = IfDecided (refusal_of_units meaning files wanted.source wanted.new units ≡ Some (refused_of r)) r

abbrev pub SurveysTo : Meaning → Files → Wanted → List TranslationUnit → Result Survey Refusal → Type 0
SurveysTo meaning files wanted units (Ok s) = Holds meaning files wanted units s × (refusal_of_units meaning files wanted.source wanted.new units ≡ None)
SurveysTo meaning files wanted units (Err r) = IfDecided (refusal_of_units meaning files wanted.source wanted.new units ≡ Some (refused_of r)) r

-- the facts tell the places of the entity that is sought, and these rise
abbrev pub IsPlaced : Sought → Survey → Type 0
IsPlaced sought s = IsTable (RisesIn sought.old.now) (option_map key_of_code sought.key) s

-- what is sought for what stands at the offset of a goal
abbrev pub wanted_for : Goal → Option Target → Wanted
wanted_for goal target = record { source = goal.source; key = option_map (λ t. t.key) target; new = goal.new }
