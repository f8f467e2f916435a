-- A plan that was made is one of the rename that is decided.
use Rattle.std.proofs.Common.{◌≡◌, ℕ, ◌++◌, Bool, true, false, List, [], ◌∷◌, length, map, Option, Some, None, slice_get, refl, sym, ap, ◌∙◌, subst}
use Rattle.std.specs.Prelude.{Ok, Err, Result}
use Rattle.std.specs.Option.{option_map}
use Rattle.std.specs.List.{flat_map}
use Rattle.std.proofs.lemmas.Option.{slice_get-map}
use Rattle.cr_base.specs.declared.token.Place.{Place}
use Rattle.cr_world.specs.Outside.{Files}
use Rattle.cr_compdb.specs.declared.entry.Entry.{Entry}
use Rattle.cr_snapshot.specs.Files.{finding, built_in, built_ins}
use Rattle.cr_snapshot.specs.BuiltIns.{headers}
use Rattle.cr_snapshot.specs.declared.header.Header.{Header}
use Rattle.cr_plan.specs.Meant.{known_first, may_rename, meant}
use Rattle.cr_plan.specs.declared.meaning.Meant.{Meant}
use Rattle.cr_goal.specs.declared.refusal.Refused.{Refused}
use Rattle.cr_snapshot.specs.declared.known.KnownFile.{KnownFile}
use Rattle.cr_class.specs.Verdict.{present_bytes}
use Rattle.cr_goal.specs.Goals.{Goal}
use Rattle.cr_goal.specs.Units.{entries_of}
use Rattle.cr_goal.specs.Refusals.{IfDecided}
use Rattle.cr_goal.specs.declared.refusal.Refusal.{Refusal}
use Rattle.cr_goal.specs.declared.refusal.Refusal.TheVariants as refusal
use Rattle.cr_goal.specs.declared.units.Entries.{Entries}
use Rattle.cr_goal.specs.declared.units.Skip.{Skip}
use Rattle.cr_edit.specs.Renames.{FileEdit, Rename, renamed_files}
use Rattle.cr_edit.specs.Report.{head_text, edit_lines, skip_line, report_of}
use Rattle.cr_edit.specs.Written.{changed_paths}
use Rattle.cr_edit.specs.Seen.{edit_of_code, all_edited_lines}
use Rattle.cr_edit.specs.Planned.{Apart, AreEdited, writes_if}
use Rattle.cr_edit.specs.declared.edits.FileEdit.{FileEdit as CodeEdit}
use Rattle.cr_edit.proofs.Editings.{renamed_in, all_lines_are}
use Rattle.cr_plan.specs.Outcome.{Offsets, edit_of, offsets_of, rename_of, Outcome, by_first, by_name, by_entries, by_goal}
use Rattle.cr_plan.specs.Editing.{edit_over}
use Rattle.cr_plan.specs.Making.{AreParted, AreThere, AreOfTree, first_or_limit}
use Rattle.cr_plan.specs.Planning.{IsPlan, Plans}
use Rattle.cr_plan.specs.declared.plan.Plan.{Plan}
use Rattle.cr_plan.proofs.Offsets.{keys, offsets_apart, each_key}

-- what a report tells
abbrev pub told : List ℕ → List ℕ → ℕ → List CodeEdit → List Skip → Bool → List ℕ
told old new units edits skipped in_place =
    head_text old new units (length skipped) (map edit_of_code edits) ++ flat_map edit_lines (map edit_of_code edits) ++ flat_map skip_line skipped ++ all_edited_lines edits in_place

edits_same : (files : List KnownFile) (old_len : ℕ) (new : List ℕ) (es : Offsets) → map edit_of_code (map (edit_over files old_len new) es) ≡ map edit_of es
edits_same files old_len new [] = refl
edits_same files old_len new (e ∷ es) = ap (λ l. edit_of e ∷ l) (edits_same files old_len new es)

paths_same : (es : Offsets) → map (λ (edit : FileEdit). edit.path) (map edit_of es) ≡ keys es
paths_same [] = refl
paths_same (e ∷ es) = ap (λ l. e.0 ∷ l) (paths_same es)

entry_at : (files : List KnownFile) (old_len : ℕ) (new : List ℕ) (es : Offsets) (i : ℕ) (edit : CodeEdit) → slice_get (map (edit_over files old_len new) es) i ≡ Some edit
    → (e : List ℕ × List ℕ) × (slice_get es i ≡ Some e) × (edit ≡ edit_over files old_len new e)
entry_at files old_len new es i edit h = by (slice_get es i) refl (sym (slice_get-map (edit_over files old_len new) es i) ∙ h)
  where
    by : (o : Option (List ℕ × List ℕ)) → slice_get es i ≡ o → option_map (edit_over files old_len new) o ≡ Some edit → (e : List ℕ × List ℕ) × (slice_get es i ≡ Some e) × (edit ≡ edit_over files old_len new e)
    by None e g = let no : None ≡ Some edit = g in let bad : ⊥ = cc in absurd bad
    by (Some x) e g = let same : edit_over files old_len new x ≡ edit = cc in (x, e, sym same)

module _ (tree : Files) (goal : Goal) (es : List Entry) (old : List ℕ) (files : List KnownFile) (places : List Place) (entries : Entries)
    (parted : AreParted es entries) (there : AreThere tree files places) where
  abbrev r : Rename
  r = rename_of goal es old files places

  abbrev edits : List CodeEdit
  edits = map (edit_over files (length old) goal.new) (offsets_of files places)

  are : map edit_of_code edits ≡ r.edits
  are = edits_same files (length old) goal.new (offsets_of files places)

  apart : Apart (changed_paths r)
  apart = subst Apart (sym (paths_same (offsets_of files places))) (offsets_apart files places)

  each : AreEdited tree r edits
  each i edit at =
      let f = entry_at files (length old) goal.new (offsets_of files places) i edit at in
      let path : List ℕ = f.0.0 in
      let bytes : List ℕ = present_bytes (finding path files) in
      let stands : tree path ≡ Some bytes = each_key (λ p. tree p ≡ Some (present_bytes (finding p files))) files places there i f.0 f.1 in
      let here : slice_get r.edits i ≡ Some (edit_of f.0) = slice_get-map edit_of (offsets_of files places) i ∙ ap (option_map edit_of) f.1 in
      subst (λ (z : CodeEdit). renamed_files r tree z.path ≡ Some z.edited) (sym f.2) (renamed_in r tree i (edit_of f.0) bytes apart here stands)

  pub plan_is : (p : Plan) (made : List CodeEdit) (units : ℕ) → made ≡ edits → units ≡ length entries.units.items
      → p.report.items ≡ told old goal.new units made entries.skipped.items goal.in_place
      → p.writes.items ≡ writes_if goal.in_place made → IsPlan tree r p
  unfolding report_of
  plan_is p made units same count report writes = record {
    edits = edits;
    are = are;
    each = each;
    apart = apart;
    report =
        report
        ∙ ap (λ l. told old goal.new units l entries.skipped.items goal.in_place) same
        ∙ ap (λ n. told old goal.new n edits entries.skipped.items goal.in_place) (count ∙ ap length parted.0)
        ∙ ap (λ l. told old goal.new r.units edits l goal.in_place) parted.1
        ∙ ap (λ l. head_text old goal.new r.units (length r.skipped) l ++ flat_map edit_lines l ++ flat_map skip_line r.skipped ++ all_edited_lines edits goal.in_place) are
        ∙ ap (λ l. head_text old goal.new r.units (length r.skipped) r.edits ++ flat_map edit_lines r.edits ++ flat_map skip_line r.skipped ++ l) (all_lines_are tree r edits are each apart goal.in_place);
    writes = writes ∙ ap (writes_if goal.in_place) same;
  }

-- a plan by one step is one by what the step stands for
pub plans_by : (tree : Files) (P Q : Outcome → Type 0) (x : Result Plan Refusal) → ((o : Outcome) → P o → Q o) → Plans tree P x → Plans tree Q x
plans_by tree P Q (Ok p) on (r, h, is) = (r, on (Ok r) h, is)
plans_by tree P Q (Err e) on h = by e h
  where
    by : (e : Refusal) → IfDecided (λ d. P (Err d)) e → IfDecided (λ d. Q (Err d)) e
    by (refusal.Decided d) g = on (Err d) g
    by (refusal.ReadFault path) g = tt
    by refusal.OutOfMemory g = tt

-- the entries of a goal that were read decide
pub entries_are : (files : Files) (goal : Goal) (es : List Entry) (x : Result Plan Refusal) → entries_of files goal.units ≡ Ok es
    → Plans files (by_entries files goal (Ok es)) x → Plans files (by_goal files (Ok goal)) x
entries_are files goal es x e h = subst (λ r. Plans files (by_entries files goal r) x) (sym e) h

-- the built-in headers stand beside all files
pub of_built_ins : (tree : Files) → AreOfTree tree built_ins
of_built_ins tree = from headers
  where
    from : (hs : List Header) → AreOfTree tree (map built_in hs)
    from [] = tt
    from (h ∷ hs) = ((λ plain. let bad : ⊥ = let no : true ≡ false = plain in cc in absurd bad), from hs)

-- what is known first decides
pub first_is : (files : Files) (goal : Goal) (es : List Entry) (known : List KnownFile) (x : Result Plan Refusal) → first_or_limit (known_first files goal.sought) ≡ Ok known
    → (known_first files goal.sought ≡ Some known)
    × (Plans files (by_name files goal es known (may_rename goal.new (meant known goal.sought))) x → Plans files (by_entries files goal (Ok es)) x)
first_is files goal es known x e = by (known_first files goal.sought) refl e
  where
    by : (o : Option (List KnownFile)) → known_first files goal.sought ≡ o → first_or_limit o ≡ Ok known
        → (known_first files goal.sought ≡ Some known)
        × (Plans files (by_name files goal es known (may_rename goal.new (meant known goal.sought))) x → Plans files (by_entries files goal (Ok es)) x)
    by None w f = let bad : ⊥ = cc in absurd bad
    by (Some k) w f =
        let same : k ≡ known = cc in
        let is = w ∙ ap (λ z. Some z) same in
        (is, λ h. subst (λ o. Plans files (by_first files goal es o) x) (sym is) h)

-- a name that may not be renamed decides
pub refused_is : (files : Files) (goal : Goal) (es : List Entry) (known : List KnownFile) (named : Result Meant Refused) (x : Result Plan Refusal) (r : Refusal) → x ≡ Err r → IfDecided (λ d. named ≡ Err d) r
    → Plans files (by_name files goal es known named) x
refused_is files goal es known named x (refusal.Decided d) is h =
    subst (Plans files (by_name files goal es known named)) (sym is) (subst (λ n. by_name files goal es known n (Err d)) (sym h) refl)
refused_is files goal es known named x (refusal.ReadFault path) is h = subst (Plans files (by_name files goal es known named)) (sym is) tt
refused_is files goal es known named x refusal.OutOfMemory is h = subst (Plans files (by_name files goal es known named)) (sym is) tt
