-- The units of a batch on their way. No contract of a public call cites what stands here but `Comes`.
use Rattle.std.specs.Prelude.{◌≡◌, ℕ, Bool, true, false, if◌then◌else◌, List, [], ◌∷◌, Option, Some, Result, Ok, Err}
use Rattle.std.specs.Option.{option_and_then}
use Rattle.std.specs.List.{Contains}
use Rattle.cr_base.specs.declared.unit.Unit.{Unit as TranslationUnit}
use Rattle.std.specs.FinSet.{union}
use Rattle.cr_base.specs.declared.token.Place.{Place}
use Rattle.cr_base.specs.declared.cause.IllCause.{IllCause}
use Rattle.cr_facts.specs.FactOrder.{Facts}
use Rattle.cr_world.specs.Outside.{Files}
use Rattle.cr_snapshot.specs.declared.snapshot.KnowFault.{KnowFault}
use Rattle.cr_snapshot.specs.declared.snapshot.KnowFault.TheVariants as know
use Rattle.cr_snapshot.specs.declared.known.KnownFile.{KnownFile}
use Rattle.cr_growth.specs.Growth.{with_wanted, is_none}
use Rattle.cr_growth.specs.declared.grow.GrowFault.{GrowFault}
use Rattle.cr_growth.specs.declared.grow.GrowFault.TheVariants as fault
use Rattle.cr_goal.specs.Refusals.{IfDecided}
use Rattle.cr_goal.specs.declared.refusal.Refused.{Refused}
use Rattle.cr_goal.specs.declared.refusal.Refusal.{Refusal}
use Rattle.cr_goal.specs.declared.refusal.Refusal.TheVariants as refusal
use Rattle.cr_unit_end.specs.declared.unit.UnitEnd.{UnitEnd}
use Rattle.cr_unit_end.specs.declared.unit.UnitEnd.TheVariants as ended
use Rattle.cr_unit_end.specs.UnitEnds.{IsUnitEnd}
use Rattle.cr_survey.specs.Refusals.{limit_files, bad_unit}
use Rattle.cr_survey.specs.declared.running.Running.{Running}

-- An answer is one that comes, unless a read or memory failed.
abbrev pub Comes : {A V : Type 0} → (Result A Refused → Type 0) → (V → A) → Result V Refusal → Type 0
Comes P view (Ok found) = P (Ok (view found))
Comes P view (Err r) = IfDecided (λ d. P (Err d)) r

-- what a unit wants that ended so
abbrev pub wants_of : UnitEnd → List (List ℕ)
wants_of (ended.Facts facts) = []
wants_of (ended.Wants paths) = paths.items
wants_of (ended.Ill c p) = []

abbrev pub unit_of : Running → TranslationUnit
unit_of r = r.unit.now

-- each unit ended so over these files
abbrev pub AreEnds : List KnownFile → List ℕ → List ℕ → List Running → Type 0
AreEnds files old new [] = Unit {0}
AreEnds files old new (r ∷ rs) = IsUnitEnd files r.unit.now old new r.end × AreEnds files old new rs

-- none wants more
abbrev pub want_none : List Running → Bool
want_none [] = true
want_none (r ∷ rs) = if is_none (wants_of r.end) then want_none rs else false

-- what they want is made known, in their order
abbrev pub after_runs : Files → List Running → List KnownFile → Option (List KnownFile)
after_runs tree [] files = Some files
after_runs tree (r ∷ rs) files = option_and_then (after_runs tree rs) (with_wanted tree (wants_of r.end) files)

-- one of them wants the path
abbrev pub Want : List Running → List ℕ → Type 0
Want runs path = (r : Running) × Contains runs r × Contains (wants_of r.end) path

-- a fault of growth as the refusal of a run
abbrev pub IsOfGrowth : GrowFault → Refusal → Type 0
IsOfGrowth fault.LimitFiles (refusal.Decided d) = d ≡ limit_files
IsOfGrowth fault.LimitFiles (refusal.ReadFault path) = ⊥
IsOfGrowth fault.LimitFiles refusal.OutOfMemory = Unit {0}
IsOfGrowth (fault.ReadFault path) r = r ≡ refusal.ReadFault path
IsOfGrowth fault.OutOfMemory r = r ≡ refusal.OutOfMemory

-- what a unit tells that ended so, with what was told before
abbrev pub IsTold : List KnownFile → Running → Facts → Result Facts Refused → Type 0
IsTold files r facts (Ok now) = (more : Facts) × (r.end ≡ ended.Facts more) × (now ≡ union facts more)
IsTold files r facts (Err d) = (c : IllCause) × (p : Place) × (r.end ≡ ended.Ill c p) × (d ≡ bad_unit files r.unit.now.number p c)

abbrev pub IsOfWords : KnowFault → Refusal → Type 0
IsOfWords know.LimitFiles r = IsOfGrowth fault.LimitFiles r
IsOfWords know.OutOfMemory r = r ≡ refusal.OutOfMemory

-- these units are all the others at the end of the list
abbrev pub IsRestOf : List TranslationUnit → List TranslationUnit → Type 0
IsRestOf rest units = (u : TranslationUnit) → Contains rest u → Contains units u
