-- What the words and the files decide: a refusal, or a rename. Our own rules, in the order of refusals.
use Rattle.std.specs.Prelude.{◌≡◌, ℕ, List, [], ◌∷◌, ◌++◌, length, map, Option, Some, None, Result, Ok, Err, fold}
use Rattle.std.specs.Ordering.{nat_cmp}
use Rattle.std.specs.Cmp.Lexicographic.{slice_cmp}
use Rattle.std.specs.FinSet.{empty}
use Rattle.std.specs.Map.{lookup, set_value}
use Rattle.std.specs.BTreeMap.{insert_entry, is_at}
use Rattle.cr_base.specs.declared.token.Place.{Place}
use Rattle.cr_world.specs.Outside.{Files}
use Rattle.cr_compdb.specs.declared.entry.Entry.{Entry}
use Rattle.cr_snapshot.specs.declared.known.KnownFile.{KnownFile}
use Rattle.cr_class.specs.ShownOrder.{path_of}
use Rattle.cr_goal.specs.Goals.{Goal, goal_of}
use Rattle.cr_goal.specs.Units.{entries_of, units_in, skips_in}
use Rattle.cr_goal.specs.declared.refusal.Refused.{Refused}
use Rattle.cr_edit.specs.Renames.{FileEdit, Rename}
use Rattle.cr_survey.specs.Batches.{Surveyed, AreSurveyed}
use Rattle.cr_survey.specs.Refusals.{limit_files}
use Rattle.cr_plan.specs.declared.meaning.Meant.{Meant}
use Rattle.cr_plan.specs.Meant.{meant, known_first, may_rename}
use Rattle.cr_plan.specs.Judgement.{named, IsJudged}

-- the offsets at the paths of some files, in the order of the paths
abbrev pub Offsets : Type 0
Offsets = List (List ℕ × List ℕ)

abbrev pub behind_others : List ℕ → ℕ → Offsets → Option (List ℕ) → Offsets
behind_others path offset by_path None = insert_entry (slice_cmp nat_cmp) by_path path (offset ∷ [])
behind_others path offset by_path (Some offsets) = set_value (is_at (slice_cmp nat_cmp path)) by_path (offsets ++ offset ∷ [])

-- an offset stands behind the others at its path; a path without any takes its place in the order
abbrev pub with_offset : List ℕ → ℕ → Offsets → Offsets
with_offset path offset by_path = behind_others path offset by_path (lookup (is_at (slice_cmp nat_cmp path)) by_path)

abbrev pub with_place : List KnownFile → Offsets → Place → Offsets
with_place files by_path p = with_offset (path_of files p) p.offset by_path

abbrev pub offsets_of : List KnownFile → List Place → Offsets
offsets_of files places = fold (with_place files) [] places

abbrev pub edit_of : List ℕ × List ℕ → FileEdit
edit_of entry = record { path = entry.0; offsets = entry.1 }

-- the files in which the places are, in the order of their paths, each with its offsets
abbrev pub edits_of : List KnownFile → List Place → List FileEdit
edits_of files places = map edit_of (offsets_of files places)

abbrev pub rename_of : Goal → List Entry → List ℕ → List KnownFile → List Place → Rename
rename_of goal entries old files places = record {
  old = old;
  new = goal.new;
  edits = edits_of files places;
  units = length (units_in entries);
  skipped = skips_in entries;
  in_place = goal.in_place;
}

abbrev pub Outcome : Type 0
Outcome = Result Rename Refused

-- ---- what each step decides

abbrev pub by_verdict : Goal → List Entry → List ℕ → List KnownFile → Result (List Place) Refused → Outcome
by_verdict goal entries old files (Err r) = Err r
by_verdict goal entries old files (Ok places) = Ok (rename_of goal entries old files places)

abbrev pub by_survey : Goal → List Entry → Meant → Result Surveyed Refused → Outcome → Type 0
by_survey goal entries m (Err r) o = o ≡ Err r
by_survey goal entries m (Ok s) o =
    (judged : Result (List Place) Refused) × IsJudged s.files s.facts goal.root m.old goal.new (named m) judged
    × (o ≡ by_verdict goal entries m.old s.files judged)

abbrev pub by_name : Files → Goal → List Entry → List KnownFile → Result Meant Refused → Outcome → Type 0
by_name tree goal entries files (Err r) o = o ≡ Err r
by_name tree goal entries files (Ok m) o =
    (end : Result Surveyed Refused) × AreSurveyed m.old goal.new tree (units_in entries) files empty end
    × by_survey goal entries m end o

abbrev pub by_first : Files → Goal → List Entry → Option (List KnownFile) → Outcome → Type 0
by_first tree goal entries None o = o ≡ Err limit_files
by_first tree goal entries (Some files) o = by_name tree goal entries files (may_rename goal.new (meant files goal.sought)) o

abbrev pub by_entries : Files → Goal → Result (List Entry) Refused → Outcome → Type 0
by_entries tree goal (Err r) o = o ≡ Err r
by_entries tree goal (Ok entries) o = by_first tree goal entries (known_first tree goal.sought) o

abbrev pub by_goal : Files → Result Goal Refused → Outcome → Type 0
by_goal tree (Err r) o = o ≡ Err r
by_goal tree (Ok goal) o = by_entries tree goal (entries_of tree goal.units) o

-- It is the refusal or the rename that the words and the files decide.
unfoldable pub IsOutcome : List (List ℕ) → Files → Outcome → Type 0
IsOutcome words tree o = by_goal tree (goal_of words) o
