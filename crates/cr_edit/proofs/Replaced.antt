-- What is left where the files of a rename were replaced, all or first ones of them.
use Rattle.std.proofs.Common.{◌≡◌, ◌⊎◌, inl, inr, ℕ, zero, suc, ◌+◌, Bool, true, false, ◌||◌, List, [], ◌∷◌, ◌++◌, map, take, Option, Some, None, slice_get, refl, sym, ap, ◌∙◌, subst, arith}
use Rattle.std.specs.Prelude.{bytes_eq, if◌then◌else◌}
use Rattle.std.specs.List.{list_any}
use Rattle.std.specs.Option.{option_map}
use Rattle.std.proofs.lemmas.Option.{slice_get-map}
use Rattle.std.proofs.lemmas.Slice.Eq.{bytes_eq-Decides}
use Rattle.cr_world.specs.Outside.{Files}
use Rattle.cr_edit.specs.Renames.{Rename, renamed_files}
use Rattle.cr_edit.specs.Written.{changed_paths, replaced_if, replaced_by, files_if, after_first, IsHalfWritten, fault_text}
use Rattle.cr_edit.specs.Writing.{AreWrites, writes_from, paths_of, written, IsStopped}
use Rattle.cr_edit.specs.Seen.{edit_of_code}
use Rattle.cr_edit.specs.Planned.{Apart, AreEdited, writes_if}
use Rattle.cr_edit.specs.declared.edits.FileEdit.{FileEdit as CodeEdit}
use Rattle.cr_edit.specs.declared.write.Write.{Write}
use Rattle.cr_edit.proofs.Editings.{written_all, written_in, written_out, find_path, paths, or_false_left, or_false_right}

-- the number and the fault of a write
write_at : (edits : List CodeEdit) (n i : ℕ) (w : Write) → slice_get (writes_from n edits) i ≡ Some w → (e : CodeEdit) × (slice_get edits i ≡ Some e) × (w.edit ≡ e) × (w.fault ≡ fault_text e.path (n + i))
write_at [] n i w h = let no : None ≡ Some w = h in let bad : ⊥ = cc in absurd bad
write_at (x ∷ edits) n zero w h =
    let same : (record { edit = x; fault = fault_text x.path n }) ≡ w = cc in
    (x, refl, sym (ap (λ (z : Write). z.edit) same), sym (ap (λ (z : Write). z.fault) same) ∙ ap (fault_text x.path) (let e : n ≡ n + 0 = omega arith in e))
write_at (x ∷ edits) n (suc i) w h =
    let r = write_at edits (n + 1) i w h in
    (r.0, r.1, r.2, r.3 ∙ ap (fault_text r.0.path) (let e : n + 1 + i ≡ n + suc i = omega arith in e))

first_writes : (edits : List CodeEdit) (n i : ℕ) → take i (writes_from n edits) ≡ writes_from n (take i edits)
first_writes [] n zero = refl
first_writes [] n (suc i) = refl
first_writes (x ∷ edits) n zero = refl
first_writes (x ∷ edits) n (suc i) = ap (λ l. (record { edit = x; fault = fault_text x.path n }) ∷ l) (first_writes edits (n + 1) i)

any_take : (P : List ℕ → Bool) (ps : List (List ℕ)) (i : ℕ) → list_any P ps ≡ false → list_any P (take i ps) ≡ false
any_take P ps zero h = refl
any_take P [] (suc i) h = refl
any_take P (p ∷ ps) (suc i) h = ap (λ b. b || list_any P (take i ps)) (or_false_left (P p) (list_any P ps) h) ∙ any_take P ps i (or_false_right (P p) (list_any P ps) h)

apart_take : (ps : List (List ℕ)) (i : ℕ) → Apart ps → Apart (take i ps)
apart_take ps zero all = tt
apart_take [] (suc i) all = tt
apart_take (p ∷ ps) (suc i) all = (any_take (bytes_eq p) ps i all.0, apart_take ps i all.1)

-- a path that stands apart isn't among the first ones
not_first : (ps : List (List ℕ)) (i : ℕ) (p : List ℕ) → Apart ps → slice_get ps i ≡ Some p → list_any (bytes_eq p) (take i ps) ≡ false
not_first [] i p all h = let no : None ≡ Some p = h in let bad : ⊥ = cc in absurd bad
not_first (x ∷ ps) zero p all h = refl
not_first (x ∷ ps) (suc i) p all h =
    ap (λ b. b || list_any (bytes_eq p) (take i ps)) (other (bytes_eq p x) refl) ∙ not_first ps i p all.1 h
  where
    among : (qs : List (List ℕ)) (i : ℕ) → slice_get qs i ≡ Some p → list_any (bytes_eq x) qs ≡ false → bytes_eq x p ≡ false
    among [] i g none = let no : None ≡ Some p = g in let bad : ⊥ = cc in absurd bad
    among (q ∷ qs) zero g none = let same : q ≡ p = cc in ap (bytes_eq x) (sym same) ∙ or_false_left (bytes_eq x q) (list_any (bytes_eq x) qs) none
    among (q ∷ qs) (suc i) g none = among qs i g (or_false_right (bytes_eq x q) (list_any (bytes_eq x) qs) none)

    other : (b : Bool) → bytes_eq p x ≡ b → b ≡ false
    other true e = sym ((bytes_eq-Decides x p).1 (sym ((bytes_eq-Decides p x).0 e))) ∙ among ps i h all.0
    other false e = refl

module _ (files : Files) (r : Rename) (edits : List CodeEdit) (are : map edit_of_code edits ≡ r.edits) (each : AreEdited files r edits) (apart : Apart (changed_paths r)) where
  -- after all writes the files are those after the rename
  pub written_if : (b : Bool) (path : List ℕ) → written (writes_if b edits) files path ≡ files_if b r files path
  written_if true path = written_all files r edits are each apart path
  written_if false path = refl

  -- the paths of all writes are those of the files that the rename replaces
  pub paths_if : (b : Bool) → paths_of (writes_if b edits) ≡ replaced_if b r
  paths_if true = from 0 edits ∙ paths files r edits are each apart
    where
      from : (n : ℕ) (es : List CodeEdit) → paths_of (writes_from n es) ≡ map (λ (edit : CodeEdit). edit.path) es
      from n [] = refl
      from n (e ∷ es) = ap (λ l. e.path ∷ l) (from (n + 1) es)
  paths_if false = refl

  -- the writes that were asked for are first ones of the files that the rename replaces
  pub asked_first : (other : Rename) → r ≡ other → (ws : List Write) (n : ℕ) (before mid now : List (List ℕ)) → ws ≡ writes_if r.in_place edits → mid ≡ before → now ≡ mid ++ take n (paths_of ws) → now ≡ before ++ take n (replaced_by other)
  asked_first other same ws n before mid now writes none asked =
      asked ∙ ap (λ l. l ++ take n (paths_of ws)) none
      ∙ ap (λ ps. before ++ take n ps) (ap paths_of writes ∙ paths_if r.in_place ∙ ap replaced_by same)

  code_paths_take : (i : ℕ) → map (λ (edit : CodeEdit). edit.path) (take i edits) ≡ take i (changed_paths r)
  code_paths_take i = by edits i ∙ ap (take i) (paths files r edits are each apart)
    where
      by : (es : List CodeEdit) (i : ℕ) → map (λ (edit : CodeEdit). edit.path) (take i es) ≡ take i (map (λ (edit : CodeEdit). edit.path) es)
      by es zero = refl
      by [] (suc i) = refl
      by (e ∷ es) (suc i) = ap (λ l. e.path ∷ l) (by es i)

  first_get : (es : List CodeEdit) (n i : ℕ) (e : CodeEdit) → slice_get (take n es) i ≡ Some e → slice_get es i ≡ Some e
  first_get es zero i e h = let no : None ≡ Some e = h in let bad : ⊥ = cc in absurd bad
  first_get [] (suc n) i e h = h
  first_get (x ∷ es) (suc n) zero e h = h
  first_get (x ∷ es) (suc n) (suc i) e h = first_get es n i e h

  -- after the first ones those are new, and all others are as they were
  written_first : (n : ℕ) (path : List ℕ) → written (take n (writes_from 0 edits)) files path ≡ after_first n r files path
  written_first n path =
      ap (λ ws. written ws files path) (first_writes edits 0 n) ∙ by (list_any (bytes_eq path) (map (λ (edit : CodeEdit). edit.path) (take n edits))) refl
    where
      by : (b : Bool) → list_any (bytes_eq path) (map (λ (edit : CodeEdit). edit.path) (take n edits)) ≡ b → written (writes_from 0 (take n edits)) files path ≡ after_first n r files path
      by true h =
          let m = find_path (take n edits) path h in
          let inside : list_any (bytes_eq path) (take n (changed_paths r)) ≡ true = ap (list_any (bytes_eq path)) (sym (code_paths_take n)) ∙ h in
          subst (λ p. written (writes_from 0 (take n edits)) files p ≡ renamed_files r files p) m.3
          (written_in (take n edits) 0 files m.0 m.1 (subst Apart (sym (code_paths_take n)) (apart_take (changed_paths r) n apart)) m.2 ∙ sym (each m.0 m.1 (first_get edits n m.0 m.1 m.2)))
          ∙ sym (ap (λ b. if b then renamed_files r files path else files path) inside)
      by false h =
          let outside : list_any (bytes_eq path) (take n (changed_paths r)) ≡ false = ap (list_any (bytes_eq path)) (sym (code_paths_take n)) ∙ h in
          written_out (take n edits) 0 files path h ∙ sym (ap (λ b. if b then renamed_files r files path else files path) outside)

  -- a write that failed
  pub half_written : (b : Bool) (now : Files) (w : Write) (n : ℕ) → b ≡ r.in_place → slice_get (writes_if b edits) n ≡ Some w → IsStopped n (writes_if b edits) w files now → IsHalfWritten n w.edit.path r files now
  half_written true now w n inside at (here, others) =
      let f = write_at edits 0 n w at in
      let path : w.edit.path ≡ f.0.path = ap (λ (z : CodeEdit). z.path) f.2 in
      let mine : slice_get (changed_paths r) n ≡ Some w.edit.path = ap (λ l. slice_get l n) (sym (paths files r edits are each apart)) ∙ slice_get-map (λ (edit : CodeEdit). edit.path) edits n ∙ ap (option_map (λ (edit : CodeEdit). edit.path)) f.1 ∙ ap (λ p. Some p) (sym path) in
      (sym inside, mine, side here mine, λ other away. others other away ∙ written_first n other)
    where
      side : (now w.edit.path ≡ written (take n (writes_from 0 edits)) files w.edit.path) ⊎ (now w.edit.path ≡ Some w.edit.edited) → slice_get (changed_paths r) n ≡ Some w.edit.path → (now w.edit.path ≡ files w.edit.path) ⊎ (now w.edit.path ≡ renamed_files r files w.edit.path)
      side (inl old) mine = inl (old ∙ written_first n w.edit.path ∙ ap (λ b. if b then renamed_files r files w.edit.path else files w.edit.path) (not_first (changed_paths r) n w.edit.path apart mine))
      side (inr new) mine =
          let f = write_at edits 0 n w at in
          inr (new ∙ ap (λ (z : CodeEdit). Some z.edited) f.2 ∙ sym (each n f.0 f.1) ∙ ap (λ (z : CodeEdit). renamed_files r files z.path) (sym f.2))
  half_written false now w n inside at h = let no : None ≡ Some w = at in let bad : ⊥ = cc in absurd bad

-- what is said of a write that failed
pub fault_of : (writes : List Write) (w : Write) (n : ℕ) → AreWrites writes → slice_get writes n ≡ Some w → w.fault ≡ fault_text w.edit.path n
fault_of writes w n (edits, is) at =
    let f = write_at edits 0 n w (ap (λ l. slice_get l n) (sym is) ∙ at) in
    f.3 ∙ ap (fault_text f.0.path) (let e : 0 + n ≡ n = omega arith in e) ∙ ap (λ (z : CodeEdit). fault_text z.path n) (sym f.2)

-- the code's writes are numbered
pub writes_are : (b : Bool) (es : List CodeEdit) → AreWrites (writes_if b es)
writes_are true es = (es, refl)
writes_are false es = ([], refl)
