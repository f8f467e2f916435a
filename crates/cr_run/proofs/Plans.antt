-- A plan that was made is one of the rename that is decided.
use Rattle.std.proofs.Common.{◌≡◌, ℕ, ◌++◌, Bool, true, false, List, [], ◌∷◌, length, map, Some, slice_get, refl, sym, ap, ◌∙◌}
use Rattle.std.specs.Option.{option_map}
use Rattle.std.specs.List.{filter, flat_map}
use Rattle.std.proofs.lemmas.Option.{slice_get-map}
use Rattle.std.proofs.lemmas.List.{length-map}
use Rattle.cr_world.specs.Outside.{Files}
use Rattle.cr_compdb.specs.declared.entry.Entry.{Entry}
use Rattle.cr_small.specs.Renaming.{Target}
use Rattle.cr_run.specs.Goal.{Goal}
use Rattle.cr_run.specs.Units.{units_in, mains}
use Rattle.cr_run.specs.Renames.{Rename}
use Rattle.cr_run.specs.Survey.{Meaning, files_so_far}
use Rattle.cr_run.specs.Outcome.{has_offsets, edit_at, rename_of}
use Rattle.cr_run.specs.Report.{head_text, edit_lines, skip_line, report_of}
use Rattle.cr_run.specs.Written.{changed_paths}
use Rattle.cr_run.specs.Writing.{AreWrites}
use Rattle.cr_run.specs.Seen.{edit_of_code, skip_of_code, all_edited_lines}
use Rattle.cr_run.specs.Held.{Holds, StandsAt, wanted_for}
use Rattle.cr_run.specs.Editing.{edits_of, AllPlaced}
use Rattle.cr_run.specs.Planning.{Apart, AreEdited, AreParted, IsPlan, writes_if}
use Rattle.cr_run.specs.declared.edits.FileEdit.{FileEdit as CodeEdit}
use Rattle.cr_run.specs.declared.plan.Plan.{Plan}
use Rattle.cr_run.specs.declared.survey.Survey.{Survey}
use Rattle.cr_run.specs.declared.units.Entries.{Entries}
use Rattle.cr_run.specs.declared.units.Skip.{Skip as CodeSkip}
use Rattle.cr_run.proofs.Editings.{order_apart, edits_apart, renamed_in, edits_are, edited_from, all_lines_are}

-- what a report tells, of the code's edits and skipped entries
abbrev pub told : List ℕ → List ℕ → ℕ → List CodeEdit → List CodeSkip → Bool → List ℕ
told old new units edits skipped in_place =
    head_text old new units (length skipped) (map edit_of_code edits) ++ flat_map edit_lines (map edit_of_code edits) ++ flat_map skip_line (map skip_of_code skipped) ++ all_edited_lines edits in_place

pub told_same : (text old new : List ℕ) (units units' : ℕ) (edits seen edits' : List CodeEdit) (skipped skipped' : List CodeSkip) (in_place : Bool) → text ≡ told old new units seen skipped in_place → units ≡ units' → seen ≡ edits → edits ≡ edits' → skipped ≡ skipped' → text ≡ told old new units' edits' skipped' in_place
told_same text old new units units' edits seen edits' skipped skipped' in_place h u s e k =
    h ∙ ap (λ n. told old new n seen skipped in_place) u ∙ ap (λ l. told old new units' l skipped in_place) (s ∙ e) ∙ ap (λ l. told old new units' edits' l in_place) k

-- the paths of a rename stand apart
pub renames_apart : (meaning : Meaning) (files : Files) (goal : Goal) (es : List Entry) (target : Target) → Apart (changed_paths (rename_of meaning files goal es target))
renames_apart meaning files goal es target = edits_apart (edit_at meaning files goal target.key) (λ p. refl) (files_so_far goal.source (units_in es)) (order_apart (goal.source ∷ mains (units_in es)))

module _ (meaning : Meaning) (files : Files) (goal : Goal) (es : List Entry) (target : Target) (entries : Entries) (survey : Survey)
    (parted : AreParted es entries) (h : Holds meaning files (wanted_for goal (Some target)) entries.units.items survey)
    (lists : List (List ℕ)) (placed : AllPlaced (StandsAt meaning (wanted_for goal (Some target)) files) lists survey.files.entries) where
  abbrev r : Rename
  r = rename_of meaning files goal es target

  abbrev edits : List CodeEdit
  edits = edits_of lists target.name goal.new survey.files.entries

  are : map edit_of_code edits ≡ r.edits
  are =
      edits_are meaning files goal (wanted_for goal (Some target)) target.key refl refl lists target.name goal.new survey.files.entries placed
      ∙ ap (λ ks. filter has_offsets (map (edit_at meaning files goal target.key) ks)) (h.paths ∙ ap (files_so_far goal.source) parted.0)

  each : AreEdited files r edits
  each i e at =
      let f = edited_from meaning files goal (wanted_for goal (Some target)) target.key refl refl lists target.name goal.new survey.files.entries i e h.each placed at in
      renamed_in r files i (edit_of_code e) f.0 (renames_apart meaning files goal es target) (ap (λ l. slice_get l i) (sym are) ∙ slice_get-map edit_of_code edits i ∙ ap (option_map edit_of_code) at) f.1
      ∙ ap (λ x. Some x) (sym f.2)

  skipped : length entries.skipped.items ≡ length r.skipped
  skipped = sym (length-map entries.skipped.items skip_of_code) ∙ ap length parted.1

  pub plan_is : (p : Plan)
      → p.report.items ≡ told target.name goal.new (length entries.units.items) edits entries.skipped.items goal.in_place
      → p.writes.items ≡ writes_if goal.in_place edits → IsPlan files r p
  unfolding report_of
  plan_is p report writes = record {
    edits = edits;
    are = are;
    each = each;
    apart = renames_apart meaning files goal es target;
    report =
        report
        ∙ ap (λ n. head_text target.name goal.new n (length entries.skipped.items) (map edit_of_code edits) ++ flat_map edit_lines (map edit_of_code edits) ++ flat_map skip_line (map skip_of_code entries.skipped.items) ++ all_edited_lines edits goal.in_place) (ap length parted.0)
        ∙ ap (λ n. head_text target.name goal.new r.units n (map edit_of_code edits) ++ flat_map edit_lines (map edit_of_code edits) ++ flat_map skip_line (map skip_of_code entries.skipped.items) ++ all_edited_lines edits goal.in_place) skipped
        ∙ ap (λ l. head_text target.name goal.new r.units (length r.skipped) l ++ flat_map edit_lines l ++ flat_map skip_line (map skip_of_code entries.skipped.items) ++ all_edited_lines edits goal.in_place) are
        ∙ ap (λ l. head_text target.name goal.new r.units (length r.skipped) r.edits ++ flat_map edit_lines r.edits ++ flat_map skip_line l ++ all_edited_lines edits goal.in_place) parted.1
        ∙ ap (λ l. head_text target.name goal.new r.units (length r.skipped) r.edits ++ flat_map edit_lines r.edits ++ flat_map skip_line r.skipped ++ l) (all_lines_are files r edits are each (renames_apart meaning files goal es target) goal.in_place);
    writes = writes;
  }

pub writes_are : (b : Bool) (es : List CodeEdit) → AreWrites (writes_if b es)
writes_are true es = (es, refl)
writes_are false es = ([], refl)
