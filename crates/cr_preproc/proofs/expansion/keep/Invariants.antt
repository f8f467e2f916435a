use Rattle.std.proofs.Common.{drop}
use Rattle.cr_preproc.proofs.Expandings.{IsKeeping}
use Rattle.cr_preproc.proofs.expansion.keep.Given as goal

abbrev pub invariant-loop-i : goal.invariant-loop-i
invariant-loop-i l = IsKeeping l.fn.trace l.trace (drop l.i l.seen) (drop l.fn.before l.seen)
