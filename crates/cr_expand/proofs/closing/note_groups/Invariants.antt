use Rattle.std.proofs.Common.{◌≤◌, length}
use Rattle.cr_expand.specs.Groups.{AreNoted}
use Rattle.cr_expand.proofs.closing.note_groups.Given as goal

abbrev pub invariant-loop-end : goal.invariant-loop-end
invariant-loop-end l = record {
  noted : AreNoted l.names l.slots.items l.groups.items;
  place : l.end ≤ length l.slots.items;
}

abbrev pub decreases-loop-end : goal.decreases-loop-end
decreases-loop-end l = l.end
