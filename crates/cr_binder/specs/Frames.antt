-- The open nodes above the innermost one, as they are kept.
use Rattle.std.specs.Prelude.{◌≡◌, List, [], ◌∷◌, length}
use Rattle.cr_types.specs.Types.{Table}
use Rattle.cr_known.specs.Known.{Frame}
use Rattle.cr_known.specs.Nested.{Framed}
use Rattle.cr_operands.specs.declared.operands.Operands.{Operands}
use Rattle.cr_operands.specs.Operands.{Grows}
use Rattle.cr_acting.specs.declared.ends.Kept.{Kept}
use Rattle.cr_acting.specs.Ends.{kept_by, values_by, IsKept}

-- a node, with what the end of the node below it wants
abbrev pub frame_by : Table → Operands → Framed → Kept → Frame
frame_by t o f k =
    record { node = f.node; first = f.first; shape = f.shape; saved = kept_by t k.saving; values = values_by t o k }

abbrev pub frames_by : Table → Operands → List Framed → List Kept → List Frame
frames_by t o [] ks = []
frames_by t o (f ∷ fs) [] = []
frames_by t o (f ∷ fs) (k ∷ ks) = frame_by t o f k ∷ frames_by t o fs ks

abbrev pub AreKept : Table → Operands → List Kept → Type 0
AreKept t o [] = Unit {0}
AreKept t o (k ∷ ks) = IsKept t o k × AreKept t o ks

-- for each node above there is one
abbrev pub AreFor : List Framed → List Kept → Type 0
AreFor fs ks = length fs ≡ length ks

-- As types and operands are added, the open nodes are the same.
pub record FramesStay (t : Table) (o : Operands) (fs : List Framed) (ks : List Kept) (u : Table) (p : Operands) : Type 0 where
  pub kept : AreKept u p ks
  pub same : frames_by u p fs ks ≡ frames_by t o fs ks

abbrev pub AllFramesStay : Type 0
AllFramesStay =
    (t u : Table) (o p : Operands) (fs : List Framed) (ks : List Kept)
    → Grows t o u p → AreKept t o ks → FramesStay t o fs ks u p
