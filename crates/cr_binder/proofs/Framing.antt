-- The open nodes stay as types and operands are added.
use Rattle.std.proofs.Common.{◌≡◌, List, [], ◌∷◌, refl, ap, ◌∙◌}
use Rattle.cr_types.specs.Types.{CType, Table}
use Rattle.cr_known.specs.Known.{Frame, Saved}
use Rattle.cr_known.specs.Nested.{Framed}
use Rattle.cr_operands.specs.declared.operands.Operands.{Operands}
use Rattle.cr_operands.specs.Operands.{Grows}
use Rattle.cr_acting.specs.declared.ends.Kept.{Kept}
use Rattle.cr_acting.specs.Ends.{kept_by, values_by, AllKeptStays}
use Rattle.cr_binder.specs.Frames.{frame_by, frames_by, AreKept, AllFramesStay}

abbrev frame : Framed → List CType → Saved → Frame
frame f cs x = record { node = f.node; first = f.first; shape = f.shape; saved = x; values = cs }

module _ (stays : AllKeptStays) (t u : Table) (o p : Operands) (grows : Grows t o u p) where
  all_kept : (ks : List Kept) → AreKept t o ks → AreKept u p ks
  all_kept [] h = tt
  all_kept (k ∷ ks) h = ((stays t u o p k grows h.0).kept, all_kept ks h.1)

  same_frame : (f : Framed) (k : Kept) → AreKept t o (k ∷ []) → frame_by u p f k ≡ frame_by t o f k
  same_frame f k h =
      let x = stays t u o p k grows h.0 in
      ap (λ cs. frame f cs (kept_by u k.saving)) x.values ∙ ap (frame f (values_by t o k)) x.saved

  same_frames : (fs : List Framed) (ks : List Kept) → AreKept t o ks → frames_by u p fs ks ≡ frames_by t o fs ks
  same_frames [] ks h = refl
  same_frames (f ∷ fs) [] h = refl
  same_frames (f ∷ fs) (k ∷ ks) h =
      ap (λ x. x ∷ frames_by u p fs ks) (same_frame f k (h.0, tt)) ∙ ap (λ xs. frame_by t o f k ∷ xs) (same_frames fs ks h.1)

pub frames_stay : AllKeptStays → AllFramesStay
frames_stay stays t u o p fs ks grows h = record { kept = all_kept stays t u o p grows ks h; same = same_frames stays t u o p grows fs ks h }
