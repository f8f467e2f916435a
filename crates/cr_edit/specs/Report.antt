-- What a rename prints.
use Rattle.std.specs.Prelude.{ℕ, Bool, true, false, List, [], ◌∷◌, ◌++◌, length, map, sum, Option, Some, None, codes, decimal}
use Rattle.std.specs.List.{flat_map}
use Rattle.cr_world.specs.Outside.{Files}
use Rattle.cr_goal.specs.declared.units.Skip.{Skip}
use Rattle.cr_edit.specs.Renames.{FileEdit, Rename, renamed_files}

abbrev pub contents : Option (List ℕ) → List ℕ
contents None = []
contents (Some bytes) = bytes

abbrev pub edit_line : List ℕ → ℕ → List ℕ
edit_line path offset = codes "edit " ++ path ++ 32 ∷ decimal offset ++ 10 ∷ []

-- a line for each place of a file
abbrev pub edit_lines : FileEdit → List ℕ
edit_lines edit = flat_map (edit_line edit.path) edit.offsets

abbrev pub skip_line : Skip → List ℕ
skip_line skip = codes "skip " ++ decimal skip.number ++ 32 ∷ skip.path ++ 10 ∷ []

abbrev pub file_lines : List ℕ → List ℕ → List ℕ
file_lines path bytes = codes "file " ++ path ++ 32 ∷ decimal (length bytes) ++ 10 ∷ bytes ++ 10 ∷ []

-- how many places there are in the files that change
abbrev pub count_places : List FileEdit → ℕ
count_places edits = sum (map (λ edit. length edit.offsets) edits)

abbrev pub count_text : List ℕ → ℕ → List ℕ
count_text what count = what ++ decimal count

-- the two first lines: the names, and how many units, skipped entries, changed files and edits there are
abbrev pub head_text : List ℕ → List ℕ → ℕ → ℕ → List FileEdit → List ℕ
head_text old new units skipped edits =
    codes "renamed " ++ old ++ codes " to " ++ new ++ count_text (codes "\nunits ") units ++ count_text (codes ", skipped ") skipped
    ++ count_text (codes ", files ") (length edits) ++ count_text (codes ", edits ") (count_places edits) ++ 10 ∷ []

-- a changed file
abbrev pub changed_lines : Files → FileEdit → List ℕ
changed_lines after edit = file_lines edit.path (contents (after edit.path))

-- the changed files, where they aren't written
abbrev pub all_changed_lines : Files → List FileEdit → Bool → List ℕ
all_changed_lines after edits true = []
all_changed_lines after edits false = flat_map (changed_lines after) edits

-- What a rename prints: the two first lines, a line for each edit, one for each skipped entry, and the changed files
-- where they aren't written.
unfoldable pub report_of : Files → Rename → List ℕ
report_of files r =
    head_text r.old r.new r.units (length r.skipped) r.edits ++ flat_map edit_lines r.edits ++ flat_map skip_line r.skipped
    ++ all_changed_lines (renamed_files r files) r.edits r.in_place
