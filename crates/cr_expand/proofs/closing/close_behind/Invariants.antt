use Rattle.std.proofs.Common.{ℕ, ◌-◌, ◌≤◌, length}
use Rattle.cr_expand.specs.Calls.{IsFound}
use Rattle.cr_expand.proofs.closing.close_behind.Given as goal

abbrev pub invariant-loop-here : goal.invariant-loop-here
invariant-loop-here l = record {
  small : l.here.depth ≤ l.here.at;
  found : (start : ℕ) → IsFound l.names l.slots.items start l.initial.here.at l.initial.here.depth → IsFound l.names l.slots.items start l.here.at l.here.depth;
}

abbrev pub decreases-loop-here : goal.decreases-loop-here
decreases-loop-here l = length l.slots.items - l.here.at
