use Rattle.std.proofs.Common.{◌≡◌, length}
use Rattle.cr_cond.specs.Machine.{parts, reduced}
use Rattle.cr_cond.proofs.machine.reduce.Given as goal

abbrev pub invariant-loop-frame : goal.invariant-loop-frame
invariant-loop-frame l = reduced parts l.fn.limit l.fn.part l.fn.stack ≡ reduced parts l.fn.limit l.part l.stack

abbrev pub decreases-loop-frame : goal.decreases-loop-frame
decreases-loop-frame l = length l.stack
