use Rattle.std.proofs.Common.{◌≡◌, ◌++◌, take, replicate}
use Rattle.cr_expand.specs.Slots.{tokens}
use Rattle.cr_expand.specs.Feeding.{all_with}
use Rattle.cr_expand.proofs.expander.put_back.Given as goal

abbrev pub invariant-loop-i : goal.invariant-loop-i
invariant-loop-i l = record {
  slots : l.slots.items ≡ l.initial.slots.items ++ tokens (all_with l.hide (take l.i l.tokens));
  groups : l.groups.items ≡ l.initial.groups.items ++ replicate l.i 0;
}
