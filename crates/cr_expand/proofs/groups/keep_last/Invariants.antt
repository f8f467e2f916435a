use Rattle.std.proofs.Common.{◌≡◌, ◌≤◌, ◌-◌, length, drop}
use Rattle.cr_expand.proofs.groups.keep_last.Given as goal

abbrev pub invariant-loop-groups : goal.invariant-loop-groups
invariant-loop-groups l = record {
  kept : l.kept ≤ length l.groups.items;
  short : length l.groups.items ≤ length l.initial.groups.items;
  same : l.groups.items ≡ drop (length l.initial.groups.items - length l.groups.items) l.initial.groups.items;
}

abbrev pub decreases-loop-groups : goal.decreases-loop-groups
decreases-loop-groups l = length l.groups.items
