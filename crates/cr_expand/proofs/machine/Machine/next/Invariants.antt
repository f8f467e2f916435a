use Rattle.std.proofs.Common.{length}
use Rattle.cr_expand.specs.Calls.{IsSearched}
use Rattle.cr_expand.specs.Groups.{AreNoted}
use Rattle.cr_expand.proofs.Silent.{IsSilent, IsFirst}
use Rattle.cr_expand.proofs.machine.Machine.next.Given as goal

abbrev pub invariant-loop-step : goal.invariant-loop-step
invariant-loop-step l = record {
  silent : IsSilent l.initial.names l.names l.macros l.initial.self l.self;
  search : IsSearched l.names l.self.slots.items l.ahead.search;
  noted : AreNoted l.names l.self.slots.items l.ahead.groups.items;
  first : IsFirst l.initial.names l.names l.macros l.initial.self l.self;
}

abbrev pub decreases-loop-step : goal.decreases-loop-step
decreases-loop-step l = length l.self.slots.items
