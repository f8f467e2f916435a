-- Files that are replaced in turn.
use Rattle.std.proofs.Common.{◌≡◌, inl, inr, ℕ, zero, suc, List, [], ◌∷◌, ◌++◌, append-nil, append_assoc, take, Some, slice_get, refl, sym, ap, ◌∙◌, true, false, Bool}
use Rattle.std.specs.Prelude.{bytes_eq, if◌then◌else◌}
use Rattle.std.proofs.lemmas.Slice.Eq.{bytes_eq-Decides}
use Rattle.cr_world.specs.Outside.{Files, Replaces}
use Rattle.cr_world.specs.declared.outside.DoneEnd.TheVariants as done
use Rattle.cr_edit.specs.Writing.{written, with_file, paths_of, IsStopped}
use Rattle.cr_edit.specs.declared.write.Write.{Write}

-- one more file
pub written_more : (ws : List Write) (i : ℕ) (w : Write) (files : Files) → slice_get ws i ≡ Some w → written (take (suc i) ws) files ≡ with_file w (written (take i ws) files)
written_more [] i w files h = let no : ⊥ = cc in absurd no
written_more (x ∷ ws) zero w files h = let same : x ≡ w = cc in ap (λ z. with_file z files) same
written_more (x ∷ ws) (suc i) w files h = written_more ws i w (with_file x files) h

-- files that were replaced up to a number, and then the next one
pub replaced_more : (ws : List Write) (i : ℕ) (w : Write) (files before now : Files) → slice_get ws i ≡ Some w → ((path : List ℕ) → before path ≡ written (take i ws) files path)
    → Replaces done.Done w.edit.path w.edit.edited before now → (path : List ℕ) → now path ≡ written (take (suc i) ws) files path
replaced_more ws i w files before now h held r path =
    by (bytes_eq path w.edit.path) refl ∙ ap (λ (f : Files). f path) (sym (written_more ws i w files h))
  where
    by : (b : Bool) → bytes_eq path w.edit.path ≡ b → now path ≡ (if bytes_eq path w.edit.path then Some w.edit.edited else written (take i ws) files path)
    by true e = ap now ((bytes_eq-Decides path w.edit.path).0 e) ∙ r.0 ∙ ap (λ b. if b then Some w.edit.edited else written (take i ws) files path) (sym e)
    by false e = r.1 path (λ same. let no : true ≡ false = sym ((bytes_eq-Decides path w.edit.path).1 same) ∙ e in let bad : ⊥ = cc in absurd bad) ∙ held path ∙ ap (λ b. if b then Some w.edit.edited else written (take i ws) files path) (sym e)

-- files that were replaced up to a number, and then one that failed
pub replaced_stop : (ws : List Write) (i : ℕ) (w : Write) (files before now : Files) → ((path : List ℕ) → before path ≡ written (take i ws) files path)
    → Replaces done.Failed w.edit.path w.edit.edited before now → IsStopped i ws w files now
replaced_stop ws i w files before now held (inl new, others) = (inr new, λ other apart. others other apart ∙ held other)
replaced_stop ws i w files before now held (inr old, others) = (inl (old ∙ held w.edit.path), λ other apart. others other apart ∙ held other)

-- one more path
paths_more : (ws : List Write) (i : ℕ) (w : Write) → slice_get ws i ≡ Some w → take (suc i) (paths_of ws) ≡ take i (paths_of ws) ++ w.edit.path ∷ []
paths_more [] i w h = let no : ⊥ = cc in absurd no
paths_more (x ∷ ws) zero w h = let same : x ≡ w = cc in ap (λ (z : Write). z.edit.path ∷ []) same
paths_more (x ∷ ws) (suc i) w h = ap (λ l. x.edit.path ∷ l) (paths_more ws i w h)

-- replaces were asked for up to a number, and then the next one
pub asked_more : (ws : List Write) (i : ℕ) (w : Write) (before mid now : List (List ℕ)) → slice_get ws i ≡ Some w → mid ≡ before ++ take i (paths_of ws) → now ≡ mid ++ w.edit.path ∷ [] → now ≡ before ++ take (suc i) (paths_of ws)
asked_more ws i w before mid now h held one =
    one ∙ ap (λ l. l ++ w.edit.path ∷ []) held ∙ append_assoc before (take i (paths_of ws)) (w.edit.path ∷ []) ∙ ap (λ l. before ++ l) (sym (paths_more ws i w h))

-- where nothing is to be written, no replace was asked for
pub none_asked : (ws : List Write) (n : ℕ) (before mid now : List (List ℕ)) → ws ≡ [] → mid ≡ before → now ≡ mid ++ take n (paths_of ws) → now ≡ before
none_asked ws n before mid now none same asked = asked ∙ ap (λ l. mid ++ take n (paths_of l)) none ∙ ap (λ l. mid ++ l) (taken n) ∙ append-nil mid ∙ same
  where
    taken : (n : ℕ) → take n (paths_of []) ≡ []
    taken zero = refl
    taken (suc n) = refl
