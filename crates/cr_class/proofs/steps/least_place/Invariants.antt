use Rattle.std.proofs.Common.{◌≡◌, None, drop}
use Rattle.cr_class.specs.ShownOrder.{shown_cmp}
use Rattle.cr_class.specs.Declarations.{least}
use Rattle.cr_class.proofs.steps.least_place.Given as goal

abbrev pub invariant-loop-place : goal.invariant-loop-place
invariant-loop-place l = least (shown_cmp l.snapshot) l.best (drop l.place-index l.places) ≡ least (shown_cmp l.snapshot) None l.places
