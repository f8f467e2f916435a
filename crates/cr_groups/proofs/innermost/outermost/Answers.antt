use Rattle.std.proofs.Common.{inl, inr, arith, sym, ◌∙◌, true≢false}
use Rattle.cr_groups.specs.Nearest.{IsFoundAt}
use Rattle.cr_groups.proofs.Inward.{passed_at_once, passed_outward}
use Rattle.cr_groups.proofs.innermost.outermost.Goals as goal
use Rattle.cr_groups.proofs.innermost.outermost.Goals.{then-is_found, else-is_found}

pub outward-init : goal.outward-init
outward-init c = passed_at_once _ _ (IsFoundAt c.args.groups.now.entries c.args.sought c.args.before c.args.sort) c.requires.distinct c.requires.within

pub outward-preserved : goal.outward-preserved
outward-preserved c =
    passed_outward _ _ (IsFoundAt c.args.groups.now.entries c.args.sought c.args.before c.args.sort) c.requires.distinct _ _ _ c.outward.best _ c.outward.invariant
    (elim c.if-is_found.branch [
      | then-is_found w ↦ inl (c.is_found.ensures.0 w.if-is_found.true, w.best-is)
      | else-is_found w ↦ inr ((λ f. true≢false (sym (c.is_found.ensures.1 f) ∙ w.if-is_found.false)), w.best-is)
    ])
    c.outer-at.ensures.within (c.outer-at.ensures.inner (omega (arith, c.if-at-eq0.false))).1
