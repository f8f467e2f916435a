-- A rename, and the files after it.
use Rattle.std.specs.Prelude.{ℕ, Bool, List, map}
use Rattle.std.specs.List.{flat_map}
use Rattle.cr_base.specs.Substitution.{FilePlace, substituted_files}
use Rattle.cr_world.specs.Outside.{Files}
use Rattle.cr_goal.specs.declared.units.Skip.{Skip}

-- a file that changes, with the offsets at which the old name stands for the new one, in order
pub record FileEdit : Type 0 where
  pub path : List ℕ
  pub offsets : List ℕ

-- a rename: the old name, the new one, the files that change in the order of their paths, how many units there are,
-- the entries that are skipped, and whether the files are written
pub record Rename : Type 0 where
  pub old : List ℕ
  pub new : List ℕ
  pub edits : List FileEdit
  pub units : ℕ
  pub skipped : List Skip
  pub in_place : Bool

abbrev pub places_of_edit : FileEdit → List FilePlace
places_of_edit edit = map (λ offset. record { path = edit.path; offset = offset }) edit.offsets

-- the places of a rename, in order
abbrev pub places : Rename → List FilePlace
places r = flat_map places_of_edit r.edits

-- the files with the new name at each place of a rename
abbrev pub renamed_files : Rename → Files → Files
renamed_files r files = substituted_files (places r) r.old r.new files
