-- A plan that carries out a rename, and what may be read for it. Our own rules.
use Rattle.std.specs.Prelude.{ℕ, ◌≡◌, ◌⊎◌, List, ◌++◌, map, Result, Ok, Err}
use Rattle.std.specs.List.{All, Contains}
use Rattle.cr_world.specs.Outside.{Files, Reading}
use Rattle.cr_compdb.specs.declared.entry.Entry.{Entry}
use Rattle.cr_goal.specs.Goals.{Goal, goal_of}
use Rattle.cr_goal.specs.Units.{entries_of, units_in}
use Rattle.cr_goal.specs.Reading.{as_read}
use Rattle.cr_goal.specs.Refusals.{IfDecided}
use Rattle.cr_goal.specs.declared.goal.Listing.TheVariants as listing
use Rattle.cr_goal.specs.declared.refusal.Refusal.{Refusal}
use Rattle.cr_edit.specs.Renames.{Rename}
use Rattle.cr_edit.specs.Report.{report_of}
use Rattle.cr_edit.specs.Seen.{edit_of_code}
use Rattle.cr_edit.specs.Written.{changed_paths}
use Rattle.cr_edit.specs.Planned.{writes_if, AreWritesIf, Apart, AreEdited}
use Rattle.cr_edit.specs.declared.edits.FileEdit.{FileEdit}
use Rattle.cr_edit.specs.declared.write.Write.{Write}
use Rattle.cr_survey.specs.Batches.{LooksFor}
use Rattle.cr_plan.specs.Meant.{first_wanted}
use Rattle.cr_plan.specs.Outcome.{Outcome}
use Rattle.cr_plan.specs.declared.plan.Plan.{Plan}

-- the writes of a goal that the words give
abbrev pub AreWritesFor : List (List ℕ) → List Write → Type 0
AreWritesFor words writes = (goal : Goal) × (goal_of words ≡ Ok goal) × AreWritesIf goal.in_place writes

-- The plan prints the report of the rename. It writes each file that the rename changes once, in their order, as it is after
-- the rename, or none, where none is to be written.
pub record IsPlan (tree : Files) (r : Rename) (p : Plan) : Type 0 where
  pub edits : List FileEdit
  pub are : map edit_of_code edits ≡ r.edits
  pub each : AreEdited tree r edits
  pub apart : Apart (changed_paths r)
  pub report : p.report.items ≡ report_of tree r
  pub writes : p.writes.items ≡ writes_if r.in_place edits

-- a plan for a rename that is decided, or a refusal that is
abbrev pub Plans : Files → (Outcome → Type 0) → Result Plan Refusal → Type 0
Plans tree Decides (Ok p) = (r : Rename) × Decides (Ok r) × IsPlan tree r p
Plans tree Decides (Err r) = IfDecided (λ d. Decides (Err d)) r

-- ---- what may be read

-- The path is that of the database, of the source where an offset of it is given, or one that a unit of the database looks
-- for: its main file, or a candidate for a file that it includes.
abbrev pub MayReadFor : Goal → Files → List ℕ → Type 0
MayReadFor goal tree path =
    (goal.units ≡ listing.Database path) ⊎ Contains (first_wanted goal.sought) path
    ⊎ ((entries : List Entry) × (entries_of tree goal.units ≡ Ok entries) × LooksFor (units_in entries) path)

-- a path that the call may read
abbrev pub MayRead : List (List ℕ) → Files → List ℕ → Type 0
MayRead words tree path = (goal : Goal) × (goal_of words ≡ Ok goal) × MayReadFor goal tree path

-- The reads went on by some of paths that may be read for a goal, by the database as it was read among them.
abbrev pub ReadsForItself : Goal → List Reading → List Reading → Type 0
ReadsForItself goal before now =
    (more : List Reading) × (now ≡ before ++ more) × All (λ reading. MayReadFor goal (as_read more) reading.0) more

-- The reads went on by some of paths that the call may read, by the database as it was read among them.
abbrev pub ReadsByItself : List (List ℕ) → List Reading → List Reading → Type 0
ReadsByItself words before now =
    (more : List Reading) × (now ≡ before ++ more) × All (λ reading. MayRead words (as_read more) reading.0) more
