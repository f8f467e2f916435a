use Rattle.std.proofs.Common.{sym, subst}
use Rattle.cr_expand.specs.HideSets.{AreBelow}
use Rattle.cr_expand.proofs.hide_sets.HideSets.with_one_more.Goals as goal

pub returns-clause-below : goal.returns-clause-below
returns-clause-below c = λ bound h k. c.in_ok-more.ensures.below bound h (subst (AreBelow bound) (sym c.in_ok-lead.ensures) k)
