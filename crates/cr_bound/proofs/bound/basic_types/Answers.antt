use Rattle.cr_bound.proofs.Lenses.{keeps_both}
use Rattle.cr_bound.proofs.bound.basic_types.Goals as goal

pub returns-clause-keeps : goal.returns-clause-keeps
returns-clause-keeps c =
    keeps_both _ _ _ c.in_ok-void.ensures.keeps
    (keeps_both _ _ _ c.in_ok-arith.ensures.keeps (keeps_both _ _ _ c.in_ok-mixed.ensures.keeps c.in_ok-supplied.ensures.keeps))
