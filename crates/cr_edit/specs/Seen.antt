-- What the code holds, without where it lies in memory.
use Rattle.std.specs.Prelude.{ℕ, Bool, true, false, List, []}
use Rattle.std.specs.List.{flat_map}
use Rattle.cr_edit.specs.Renames as renames
use Rattle.cr_edit.specs.Report.{file_lines}
use Rattle.cr_edit.specs.declared.edits.FileEdit.{FileEdit}

abbrev pub edit_of_code : FileEdit → renames.FileEdit
edit_of_code e = record { path = e.path; offsets = e.offsets }

-- a changed file, as the report shows it
abbrev pub edited_lines : FileEdit → List ℕ
edited_lines e = file_lines e.path e.edited

abbrev pub all_edited_lines : List FileEdit → Bool → List ℕ
all_edited_lines edits true = []
all_edited_lines edits false = flat_map edited_lines edits
