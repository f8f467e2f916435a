use Rattle.std.proofs.Common.{◌≡◌, ◌≤◌, None, length}
use Rattle.cr_ll.proofs.tests.last.Given as goal

abbrev pub invariant-loop : goal.invariant-loop
invariant-loop l = (l.machine.waits ≡ None) × (l.machine.place ≤ length l.text.tokens.items)
