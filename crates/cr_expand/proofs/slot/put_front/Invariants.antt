use Rattle.std.proofs.Common.{◌≡◌, ◌++◌, drop}
use Rattle.cr_expand.specs.Slots.{tokens}
use Rattle.cr_expand.proofs.slot.put_front.Given as goal

abbrev pub invariant-loop-i : goal.invariant-loop-i
invariant-loop-i l = l.slots.items ≡ tokens (drop l.i l.list) ++ l.initial.slots.items
