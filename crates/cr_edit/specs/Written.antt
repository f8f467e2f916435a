-- The files that a run replaces, in the order of their paths.
use Rattle.std.specs.Prelude.{ℕ, ◌≡◌, ◌≢◌, ◌⊎◌, Bool, true, false, List, [], ◌++◌, map, take, Some, if◌then◌else◌, bytes_eq, codes, decimal, slice_get}
use Rattle.std.specs.List.{list_any}
use Rattle.cr_world.specs.Outside.{Files}
use Rattle.cr_edit.specs.Renames.{Rename, renamed_files}

abbrev pub changed_paths : Rename → List (List ℕ)
changed_paths r = map (λ edit. edit.path) r.edits

-- the files after a rename: edited where they are written, and else as they were
abbrev pub files_if : Bool → Rename → Files → Files
files_if true r files = renamed_files r files
files_if false r files = files

abbrev pub files_after : Rename → Files → Files
files_after r files = files_if r.in_place r files

-- the paths of the files that a rename replaces, in order
abbrev pub replaced_if : Bool → Rename → List (List ℕ)
replaced_if true r = changed_paths r
replaced_if false r = []

abbrev pub replaced_by : Rename → List (List ℕ)
replaced_by r = replaced_if r.in_place r

-- the files after the first ones of those that change were replaced
abbrev pub after_first : ℕ → Rename → Files → Files
after_first n r files path = if list_any (bytes_eq path) (take n (changed_paths r)) then renamed_files r files path else files path

-- Files are to be written; the first n of those that change are new, the next one at this path is old or new, and all
-- others are old.
abbrev pub IsHalfWritten : ℕ → List ℕ → Rename → Files → Files → Type 0
IsHalfWritten n path r files now =
    (r.in_place ≡ true)
    × (slice_get (changed_paths r) n ≡ Some path)
    × ((now path ≡ files path) ⊎ (now path ≡ renamed_files r files path))
    × ((other : List ℕ) → other ≢ path → now other ≡ after_first n r files other)

-- what is said where the file at a path can't be replaced after so many others
abbrev pub fault_text : List ℕ → ℕ → List ℕ
fault_text path written = path ++ codes " after " ++ decimal written ++ codes " files"
