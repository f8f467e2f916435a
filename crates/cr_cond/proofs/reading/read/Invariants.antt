use Rattle.std.proofs.Common.{◌≡◌, [], drop}
use Rattle.cr_cond.specs.declared.machine.Hand.TheVariants.{Waits}
use Rattle.cr_cond.proofs.Going.{left}
use Rattle.cr_cond.proofs.reading.read.Given as goal

abbrev pub invariant-loop-i : goal.invariant-loop-i
invariant-loop-i l = left l.names l.stack l.hand (drop l.i l.tokens) ≡ left l.names [] Waits l.tokens
