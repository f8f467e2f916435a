-- A plan that carries out a rename. No contract of a public call cites it.
use Rattle.std.specs.Prelude.{ℕ, ◌≡◌, Bool, true, false, List, [], ◌∷◌, map, bytes_eq, Some, Result, Ok, Err, slice_get}
use Rattle.std.specs.List.{list_any}
use Rattle.cr_world.specs.Outside.{Files}
use Rattle.cr_compdb.specs.declared.entry.Entry.{Entry}
use Rattle.cr_run.specs.Goal.{Goal, goal_of}
use Rattle.cr_run.specs.Units.{units_in, skips_in}
use Rattle.cr_run.specs.Renames.{Rename, renamed_files}
use Rattle.cr_run.specs.Outcome.{Outcome}
use Rattle.cr_run.specs.Report.{report_of}
use Rattle.cr_run.specs.Refusals.{IfDecided, refused_of}
use Rattle.cr_run.specs.Seen.{edit_of_code, skip_of_code}
use Rattle.cr_run.specs.Written.{changed_paths}
use Rattle.cr_run.specs.Writing.{writes_from}
use Rattle.cr_run.specs.declared.edits.FileEdit.{FileEdit}
use Rattle.cr_run.specs.declared.write.Write.{Write}
use Rattle.cr_run.specs.declared.units.Entries.{Entries}
use Rattle.cr_run.specs.declared.plan.Plan.{Plan}
use Rattle.cr_run.specs.declared.refusal.Refusal.{Refusal}

-- the files that are replaced
abbrev pub writes_if : Bool → List FileEdit → List Write
writes_if true edits = writes_from 0 edits
writes_if false edits = []

-- the code's writes, where files are to be replaced, and else none
abbrev pub AreWritesIf : Bool → List Write → Type 0
AreWritesIf in_place writes = (edits : List FileEdit) × (writes ≡ writes_if in_place edits)

-- the writes of a goal that the words give
abbrev pub AreWritesFor : List (List ℕ) → List Write → Type 0
AreWritesFor words writes = (goal : Goal) × (goal_of words ≡ Ok goal) × AreWritesIf goal.in_place writes

-- no path stands twice
abbrev pub Apart : List (List ℕ) → Type 0
Apart [] = Unit {0}
Apart (p ∷ ps) = (list_any (bytes_eq p) ps ≡ false) × Apart ps

-- each edit has its file as it is after the rename
abbrev pub AreEdited : Files → Rename → List FileEdit → Type 0
AreEdited files r edits = (i : ℕ) (edit : FileEdit) → slice_get edits i ≡ Some edit → renamed_files r files edit.path ≡ Some edit.edited

pub record IsPlan (files : Files) (r : Rename) (p : Plan) : Type 0 where
  pub edits : List FileEdit
  pub are : map edit_of_code edits ≡ r.edits
  pub each : AreEdited files r edits
  pub apart : Apart (changed_paths r)
  pub report : p.report.items ≡ report_of files r
  pub writes : p.writes.items ≡ writes_if r.in_place edits

-- a plan for the rename that is decided, or the refusal
abbrev pub Plans : Files → Outcome → Result Plan Refusal → Type 0
Plans files o (Ok p) = (r : Rename) × (o ≡ Ok r) × IsPlan files r p
Plans files o (Err r) = IfDecided (o ≡ Err (refused_of r)) r

-- the entries are these units and these skipped ones
abbrev pub AreParted : List Entry → Entries → Type 0
AreParted es entries = (entries.units.items ≡ units_in es) × (map skip_of_code entries.skipped.items ≡ skips_in es)
