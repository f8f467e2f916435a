use Rattle.std.proofs.Common.{◌≡◌, None, drop}
use Rattle.cr_class.specs.Verdict.{use_cmp}
use Rattle.cr_class.specs.Declarations.{least}
use Rattle.cr_class.proofs.steps.least_use.Given as goal

abbrev pub invariant-loop-other : goal.invariant-loop-other
invariant-loop-other l = least (use_cmp l.snapshot) l.best (drop l.other-index l.uses) ≡ least (use_cmp l.snapshot) None l.uses
