-- The edits of a rename: which files they change, and what stands there after all were written.
use Rattle.std.proofs.Common.{◌≡◌, ℕ, zero, suc, ◌+◌, Bool, true, false, ◌||◌, List, [], ◌∷◌, ◌++◌, length, map, Option, Some, None, slice_get, refl, sym, ap, ◌∙◌, subst, append-nil}
use Rattle.std.specs.Prelude.{bytes_eq, if◌then◌else◌, option_map}
use Rattle.std.specs.List.{list_any, filter, flat_map}
use Rattle.std.proofs.lemmas.Slice.Eq.{bytes_eq-Decides}
use Rattle.cr_base.specs.Substitution.{FilePlace, offsets_in, substituted}
use Rattle.cr_world.specs.Outside.{Files}
use Rattle.cr_edit.specs.Renames.{FileEdit, Rename, places_of_edit, renamed_files}
use Rattle.cr_edit.specs.Report.{contents, file_lines, changed_lines, all_changed_lines}
use Rattle.cr_edit.specs.Written.{changed_paths, fault_text}
use Rattle.cr_edit.specs.Writing.{writes_from, with_file, written}
use Rattle.cr_edit.specs.Seen.{edit_of_code, edited_lines, all_edited_lines}
use Rattle.cr_edit.specs.Planned.{Apart, AreEdited}
use Rattle.cr_edit.specs.declared.edits.FileEdit.{FileEdit as CodeEdit}

eq_self : (p : List ℕ) → bytes_eq p p ≡ true
eq_self p = (bytes_eq-Decides p p).1 refl

pub or_false_left : (a b : Bool) → (a || b) ≡ false → a ≡ false
or_false_left true b h = let bad : ⊥ = cc in absurd bad
or_false_left false b h = refl

pub or_false_right : (a b : Bool) → (a || b) ≡ false → b ≡ false
or_false_right true b h = let bad : ⊥ = cc in absurd bad
or_false_right false b h = h

pub apart_sym : (p q : List ℕ) → bytes_eq p q ≡ false → bytes_eq q p ≡ false
apart_sym p q h = by (bytes_eq q p) refl
  where
    by : (b : Bool) → bytes_eq q p ≡ b → b ≡ false
    by true e = sym ((bytes_eq-Decides p q).1 (sym ((bytes_eq-Decides q p).0 e))) ∙ h
    by false e = refl

-- edits of paths that stand apart
abbrev paths_of : List FileEdit → List (List ℕ)
paths_of edits = map (λ edit. edit.path) edits

-- the offsets of the places at a path
pub offsets_both : (path : List ℕ) (a b : List FilePlace) → offsets_in path (a ++ b) ≡ offsets_in path a ++ offsets_in path b
offsets_both path [] b = refl
offsets_both path (x ∷ a) b = by (bytes_eq x.path path) (offsets_both path a b)
  where
    by : (c : Bool) → offsets_in path (a ++ b) ≡ offsets_in path a ++ offsets_in path b
        → map (λ p. p.offset) (if c then x ∷ filter (λ p. bytes_eq p.path path) (a ++ b) else filter (λ p. bytes_eq p.path path) (a ++ b)) ≡ map (λ p. p.offset) (if c then x ∷ filter (λ p. bytes_eq p.path path) a else filter (λ p. bytes_eq p.path path) a) ++ offsets_in path b
    by true more = ap (λ l. x.offset ∷ l) more
    by false more = more

pub own_offsets : (path : List ℕ) (offsets : List ℕ) → offsets_in path (map (λ offset. record { path = path; offset = offset }) offsets) ≡ offsets
own_offsets path [] = refl
own_offsets path (o ∷ os) = let same = eq_self path in rw same (ap (λ t. o ∷ t) (own_offsets path os))

pub no_offsets : (path other : List ℕ) (offsets : List ℕ) → bytes_eq other path ≡ false → offsets_in path (map (λ offset. record { path = other; offset = offset }) offsets) ≡ []
no_offsets path other [] h = refl
no_offsets path other (o ∷ os) h = rw h (no_offsets path other os h)

pub none_there : (path : List ℕ) (edits : List FileEdit) → list_any (bytes_eq path) (paths_of edits) ≡ false → offsets_in path (flat_map places_of_edit edits) ≡ []
none_there path [] h = refl
none_there path (e ∷ edits) h =
    offsets_both path (places_of_edit e) (flat_map places_of_edit edits)
    ∙ ap (λ l. l ++ offsets_in path (flat_map places_of_edit edits)) (no_offsets path e.path e.offsets (apart_sym path e.path (or_false_left (bytes_eq path e.path) _ h)))
    ∙ none_there path edits (or_false_right (bytes_eq path e.path) _ h)

member : (P : List ℕ → Bool) (edits : List FileEdit) (i : ℕ) (e : FileEdit) → slice_get edits i ≡ Some e → list_any P (paths_of edits) ≡ false → P e.path ≡ false
member P [] i e h none = let no : None ≡ Some e = h in let bad : ⊥ = cc in absurd bad
member P (x ∷ edits) zero e h none = let same : x ≡ e = cc in ap (λ (z : FileEdit). P z.path) (sym same) ∙ or_false_left (P x.path) _ none
member P (x ∷ edits) (suc i) e h none = member P edits i e h (or_false_right (P x.path) _ none)

pub offsets_there : (edits : List FileEdit) (i : ℕ) (e : FileEdit) → Apart (paths_of edits) → slice_get edits i ≡ Some e → offsets_in e.path (flat_map places_of_edit edits) ≡ e.offsets
offsets_there [] i e all h = let no : None ≡ Some e = h in let bad : ⊥ = cc in absurd bad
offsets_there (x ∷ edits) zero e all h =
    let same : x ≡ e = cc in
    subst (λ (z : FileEdit). offsets_in z.path (flat_map places_of_edit (x ∷ edits)) ≡ z.offsets) same
    (offsets_both x.path (places_of_edit x) (flat_map places_of_edit edits)
    ∙ ap (λ l. l ++ offsets_in x.path (flat_map places_of_edit edits)) (own_offsets x.path x.offsets)
    ∙ ap (λ l. x.offsets ++ l) (none_there x.path edits all.0)
    ∙ append-nil x.offsets)
offsets_there (x ∷ edits) (suc i) e all h =
    offsets_both e.path (places_of_edit x) (flat_map places_of_edit edits)
    ∙ ap (λ l. l ++ offsets_in e.path (flat_map places_of_edit edits)) (no_offsets e.path x.path x.offsets (member (bytes_eq x.path) edits i e h all.0))
    ∙ offsets_there edits i e all.1 h

unchanged : (old_len : ℕ) (new : List ℕ) (o : Option (List ℕ)) → option_map (substituted [] old_len new) o ≡ o
unchanged old_len new None = refl
unchanged old_len new (Some bytes) = refl

-- the other files stay
pub renamed_out : (r : Rename) (files : Files) (path : List ℕ) → list_any (bytes_eq path) (changed_paths r) ≡ false → renamed_files r files path ≡ files path
renamed_out r files path h = ap (λ os. option_map (substituted os (length r.old) r.new) (files path)) (none_there path r.edits h) ∙ unchanged (length r.old) r.new (files path)

pub renamed_in : (r : Rename) (files : Files) (i : ℕ) (e : FileEdit) (bytes : List ℕ) → Apart (changed_paths r) → slice_get r.edits i ≡ Some e → files e.path ≡ Some bytes → renamed_files r files e.path ≡ Some (substituted e.offsets (length r.old) r.new bytes)
renamed_in r files i e bytes all h there =
    ap (λ os. option_map (substituted os (length r.old) r.new) (files e.path)) (offsets_there r.edits i e all h) ∙ ap (option_map (substituted e.offsets (length r.old) r.new)) there

-- files that are written one after another
pub written_out : (edits : List CodeEdit) (n : ℕ) (files : Files) (path : List ℕ) → list_any (bytes_eq path) (map (λ edit. edit.path) edits) ≡ false → written (writes_from n edits) files path ≡ files path
written_out [] n files path h = refl
written_out (x ∷ edits) n files path h =
    written_out edits (n + 1) (with_file (record { edit = x; fault = fault_text x.path n }) files) path (or_false_right (bytes_eq path x.path) _ h)
    ∙ ap (λ b. if b then Some x.edited else files path) (or_false_left (bytes_eq path x.path) _ h)

pub written_in : (edits : List CodeEdit) (n : ℕ) (files : Files) (i : ℕ) (e : CodeEdit) → Apart (map (λ edit. edit.path) edits) → slice_get edits i ≡ Some e → written (writes_from n edits) files e.path ≡ Some e.edited
written_in [] n files i e all h = let no : None ≡ Some e = h in let bad : ⊥ = cc in absurd bad
written_in (x ∷ edits) n files zero e all h =
    let same : x ≡ e = cc in
    subst (λ (z : CodeEdit). written (writes_from n (x ∷ edits)) files z.path ≡ Some z.edited) same
    (written_out edits (n + 1) (with_file (record { edit = x; fault = fault_text x.path n }) files) x.path all.0 ∙ ap (λ b. if b then Some x.edited else files x.path) (eq_self x.path))
written_in (x ∷ edits) n files (suc i) e all h = written_in edits (n + 1) (with_file (record { edit = x; fault = fault_text x.path n }) files) i e all.1 h

pub find_path : (edits : List CodeEdit) (path : List ℕ) → list_any (bytes_eq path) (map (λ edit. edit.path) edits) ≡ true → (i : ℕ) × (e : CodeEdit) × (slice_get edits i ≡ Some e) × (e.path ≡ path)
find_path [] path h = let no : false ≡ true = h in let bad : ⊥ = cc in absurd bad
find_path (x ∷ edits) path h = by (bytes_eq path x.path) refl h (find_path edits path)
  where
    by : (b : Bool) → bytes_eq path x.path ≡ b → (b || list_any (bytes_eq path) (map (λ edit. edit.path) edits)) ≡ true → (list_any (bytes_eq path) (map (λ edit. edit.path) edits) ≡ true → (i : ℕ) × (e : CodeEdit) × (slice_get edits i ≡ Some e) × (e.path ≡ path))
        → (i : ℕ) × (e : CodeEdit) × (slice_get (x ∷ edits) i ≡ Some e) × (e.path ≡ path)
    by true k g more = (0, x, refl, sym ((bytes_eq-Decides path x.path).0 k))
    by false k g more = let m = more g in (suc m.0, m.1, m.2, m.3)

module _ (files : Files) (r : Rename) (edits : List CodeEdit) (are : map edit_of_code edits ≡ r.edits) (each : AreEdited files r edits) (apart : Apart (changed_paths r)) where
  paths_same : (es : List CodeEdit) → map (λ (edit : CodeEdit). edit.path) es ≡ map (λ (edit : FileEdit). edit.path) (map edit_of_code es)
  paths_same [] = refl
  paths_same (e ∷ es) = ap (λ l. e.path ∷ l) (paths_same es)

  pub paths : map (λ (edit : CodeEdit). edit.path) edits ≡ changed_paths r
  paths = paths_same edits ∙ ap (map (λ (edit : FileEdit). edit.path)) are

  code_apart : Apart (map (λ (edit : CodeEdit). edit.path) edits)
  code_apart = subst Apart (sym paths) apart

  -- after all were written the files are the renamed ones
  pub written_all : (path : List ℕ) → written (writes_from 0 edits) files path ≡ renamed_files r files path
  written_all path = by (list_any (bytes_eq path) (map (λ (edit : CodeEdit). edit.path) edits)) refl
    where
      by : (b : Bool) → list_any (bytes_eq path) (map (λ (edit : CodeEdit). edit.path) edits) ≡ b → written (writes_from 0 edits) files path ≡ renamed_files r files path
      by true h =
          let m = find_path edits path h in
          subst (λ p. written (writes_from 0 edits) files p ≡ renamed_files r files p) m.3 (written_in edits 0 files m.0 m.1 code_apart m.2 ∙ sym (each m.0 m.1 m.2))
      by false h = written_out edits 0 files path h ∙ sym (renamed_out r files path (ap (list_any (bytes_eq path)) (sym paths) ∙ h))

  lines_are : (es : List CodeEdit) → ((i : ℕ) (e : CodeEdit) → slice_get es i ≡ Some e → renamed_files r files e.path ≡ Some e.edited) → flat_map edited_lines es ≡ flat_map (changed_lines (renamed_files r files)) (map edit_of_code es)
  lines_are [] h = refl
  lines_are (e ∷ es) h =
      ap (λ o. file_lines e.path (contents o) ++ flat_map edited_lines es) (sym (h 0 e refl)) ∙ ap (λ l. changed_lines (renamed_files r files) (edit_of_code e) ++ l) (lines_are es (λ i x. h (suc i) x))

  pub all_lines_are : (b : Bool) → all_edited_lines edits b ≡ all_changed_lines (renamed_files r files) r.edits b
  all_lines_are true = refl
  all_lines_are false = lines_are edits each ∙ ap (flat_map (changed_lines (renamed_files r files))) are
