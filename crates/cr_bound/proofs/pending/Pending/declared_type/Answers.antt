use Rattle.cr_bound.proofs.Lenses.{keeps_both}
use Rattle.cr_bound.proofs.pending.Pending.declared_type.Goals as goal

pub returns-clause-keeps : goal.returns-clause-keeps
returns-clause-keeps c = keeps_both _ _ _ c.in_ok-base.ensures.keeps c.in_ok-n.ensures.keeps
