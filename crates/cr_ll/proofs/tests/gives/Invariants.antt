use Rattle.std.proofs.Common.{◌≡◌, ◌≤◌, None, length}
use Rattle.cr_ll.proofs.tests.gives.Given as goal

abbrev pub invariant-loop-event : goal.invariant-loop-event
invariant-loop-event l = (l.machine.waits ≡ None) × (l.machine.place ≤ length l.text.tokens.items)
