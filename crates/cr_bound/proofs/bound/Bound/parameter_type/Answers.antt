use Rattle.std.proofs.Common.{◌∙◌}
use Rattle.cr_bound.proofs.Lenses.{keeps_both}
use Rattle.cr_bound.proofs.bound.Bound.parameter_type.Goals as goal

pub returns-in_err-n-2-clause-grows : goal.returns-in_err-n-2-clause-grows
returns-in_err-n-2-clause-grows c =
    c.stay.ensures _ _ (keeps_both _ _ _ c.in_ok-n.ensures.keeps c.in_err-n-2.ensures.keeps) (c.in_err-n-2.ensures.records ∙ c.in_ok-n.ensures.records) c.requires

pub returns-clause-grows : goal.returns-clause-grows
returns-clause-grows c =
    c.stay.ensures _ _ (keeps_both _ _ _ c.in_ok-n.ensures.keeps c.in_ok-n-2.ensures.keeps) (c.in_ok-n-2.ensures.records ∙ c.in_ok-n.ensures.records) c.requires
