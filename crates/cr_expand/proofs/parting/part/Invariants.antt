use Rattle.std.proofs.Common.{◌-◌, ◌≤◌}
use Rattle.cr_expand.specs.Partings.{lists_of}
use Rattle.cr_expand.specs.Wanted.{is_marked_whole}
use Rattle.cr_expand.proofs.PartedLists.{IsKeptTo}
use Rattle.cr_expand.proofs.parting.part.Given as goal

abbrev pub invariant-loop-i : goal.invariant-loop-i
invariant-loop-i l = record {
  small : l.parting.depth ≤ l.i;
  place : l.i ≤ l.close;
  parted : IsKeptTo l.names l.fn.commas (is_marked_whole l.needs) l.initial.slots.items l.slots.items l.close l.i (lists_of l.parting) l.parting.list.items l.parting.commas l.parting.depth;
}

abbrev pub decreases-loop-i : goal.decreases-loop-i
decreases-loop-i l = l.close - l.i
