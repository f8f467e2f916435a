-- The pieces that are left, with names and hide sets by number.
use Rattle.std.specs.Prelude.{ℕ, ◌+◌, Bool, true, false, List, [], ◌∷◌, ◌++◌, map}
use Rattle.std.specs.List.{All}
use Rattle.cr_expand.specs.declared.held.Held.{Held}
use Rattle.cr_expand.specs.declared.slot.Slot.{Slot}
use Rattle.cr_expand.specs.declared.slot.Slot.TheVariants as slot
use Rattle.cr_macros.specs.Tokens.{Text}
use Rattle.cr_expand.specs.HideSets.{Sets}
use Rattle.cr_expand.specs.Held.{held, IsKnown}
use Rattle.cr_expand.specs.Running.{Piece, Stands, Ends}

-- a slot with its text
abbrev pub piece : List Text → Sets → Slot → Piece
piece names sets (slot.Token h) = Stands (held names sets h)
piece names sets slot.End = Ends

abbrev pub pieces : List Text → Sets → List Slot → List Piece
pieces names sets = map {A = Slot} (piece names sets)

abbrev pub IsSlotKnown : List Text → Sets → Slot → Type 0
IsSlotKnown names sets (slot.Token h) = IsKnown names sets h
IsSlotKnown names sets slot.End = Unit {0}

abbrev pub AreSlotsKnown : List Text → Sets → List Slot → Type 0
AreSlotsKnown names sets slots = All (IsSlotKnown names sets) slots

-- tokens as slots
abbrev pub tokens : List Held → List Slot
tokens = map {A = Held} (λ h. slot.Token h)

-- the slots from the first end on
abbrev pub from_end : List Slot → List Slot
from_end [] = []
from_end (slot.Token h ∷ ss) = from_end ss
from_end (slot.End ∷ ss) = slot.End ∷ ss

-- how many ends there are
abbrev pub ends : List Slot → ℕ
ends [] = 0
ends (slot.Token h ∷ ss) = ends ss
ends (slot.End ∷ ss) = 1 + ends ss

-- lists of tokens, each with its end
abbrev pub ended : List (List Held) → List Slot
ended [] = []
ended (hs ∷ lists) = tokens hs ++ slot.End ∷ ended lists

-- the slots without the tokens of the first list, where it isn't wanted
abbrev pub begun : Bool → List Slot → List Slot
begun true slots = slots
begun false slots = from_end slots
