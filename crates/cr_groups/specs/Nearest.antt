-- The innermost and the outermost group of a name around a place.
use Rattle.std.specs.Prelude.{ℕ, ◌≤◌, List, length}
use Rattle.cr_paths.specs.Paths.{path_at}
use Rattle.cr_declared.specs.declared.rows.Slot.{Slot}
use Rattle.cr_groups.specs.declared.groups.Group.{Group}
use Rattle.cr_groups.specs.declared.groups.Sort.{Sort}
use Rattle.cr_groups.specs.declared.groups.Sort.TheVariants as sort
use Rattle.cr_groups.specs.Outward.{IsFound, Encloses, beside}

abbrev pub IsFoundAt : List (Slot × Group) → Slot → ℕ → Sort → ℕ → Type 0
IsFoundAt es s before what q = (g : Group) × IsFound es (beside q s) before what g

abbrev pub NoneAround : List (List ℕ) → List (Slot × Group) → Slot → ℕ → Sort → Type 0
NoneAround ps es s before what = (q : ℕ) → Encloses ps q s.path → IsFoundAt es s before what q → ⊥

pub record IsNearest (ps : List (List ℕ)) (es : List (Slot × Group)) (s : Slot) (before : ℕ) (what : Sort) (r : ℕ) : Type 0 where
  pub around : Encloses ps r s.path
  pub there : IsFoundAt es s before what r
  pub best : (q : ℕ) → Encloses ps q s.path → IsFoundAt es s before what q → length (path_at ps q) ≤ length (path_at ps r)

pub record IsOutermost (ps : List (List ℕ)) (es : List (Slot × Group)) (s : Slot) (before : ℕ) (what : Sort) (r : ℕ) : Type 0 where
  pub around : Encloses ps r s.path
  pub there : IsFoundAt es s before what r
  pub best : (q : ℕ) → Encloses ps q s.path → IsFoundAt es s before what q → length (path_at ps r) ≤ length (path_at ps q)

abbrev pub ShowsFrom : List (List ℕ) → List (Slot × Group) → Slot → ℕ → ℕ → Type 0
ShowsFrom ps es s before limit = (q : ℕ) × Encloses ps q s.path × (limit ≤ length (path_at ps q)) × IsFoundAt es s before sort.Any q
