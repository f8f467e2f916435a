-- What the code holds, without where it lies in memory.
use Rattle.std.specs.Prelude.{ℕ, Bool, true, false, List, []}
use Rattle.std.specs.List.{flat_map}
use Rattle.cr_run.specs.Goal as goal
use Rattle.cr_run.specs.Units as units
use Rattle.cr_run.specs.Renames as renames
use Rattle.cr_run.specs.Report.{file_lines}
use Rattle.cr_run.specs.declared.goal.Goal.{Goal}
use Rattle.cr_run.specs.declared.units.Skip.{Skip}
use Rattle.cr_run.specs.declared.edits.FileEdit.{FileEdit}

abbrev pub goal_of_code : Goal → goal.Goal
goal_of_code g = record { source = g.source; offset = g.offset; database = g.database; new = g.new.now; in_place = g.in_place }

abbrev pub skip_of_code : Skip → units.Skip
skip_of_code s = record { number = s.number; path = s.path }

abbrev pub edit_of_code : FileEdit → renames.FileEdit
edit_of_code e = record { path = e.path; offsets = e.offsets }

-- a changed file, as the report shows it
abbrev pub edited_lines : FileEdit → List ℕ
edited_lines e = file_lines e.path e.edited

abbrev pub all_edited_lines : List FileEdit → Bool → List ℕ
all_edited_lines edits true = []
all_edited_lines edits false = flat_map edited_lines edits
