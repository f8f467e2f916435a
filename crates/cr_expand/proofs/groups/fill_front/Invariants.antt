use Rattle.std.proofs.Common.{◌≡◌, ◌-◌, ◌++◌, length, replicate}
use Rattle.cr_expand.proofs.groups.fill_front.Given as goal

abbrev pub invariant-loop : goal.invariant-loop
invariant-loop l = l.groups.items ≡ replicate (l.counter - length l.initial.groups.items) 0 ++ l.initial.groups.items
