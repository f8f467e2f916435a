use Rattle.std.proofs.Common.{◌≡◌, length}
use Rattle.cr_expand.specs.Slots.{from_end}
use Rattle.cr_expand.proofs.slot.skip.Given as goal

abbrev pub invariant-loop-slots : goal.invariant-loop-slots
invariant-loop-slots l = from_end l.slots.items ≡ from_end l.initial.slots.items

abbrev pub decreases-loop-slots : goal.decreases-loop-slots
decreases-loop-slots l = length l.slots.items
