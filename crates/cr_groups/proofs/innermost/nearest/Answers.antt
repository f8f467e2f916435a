use Rattle.std.proofs.Common.{arith, sym, ◌∙◌, true≢false}
use Rattle.cr_groups.specs.Nearest.{IsFoundAt}
use Rattle.cr_groups.proofs.Inward.{left_at_once, left_outward}
use Rattle.cr_groups.proofs.innermost.nearest.Goals as goal

pub outward-init : goal.outward-init
outward-init c = left_at_once _ _ (IsFoundAt c.args.groups.now.entries c.args.sought c.args.before c.args.sort) c.requires.distinct c.requires.within

pub outward-preserved : goal.outward-preserved
outward-preserved c =
    left_outward _ _ (IsFoundAt c.args.groups.now.entries c.args.sought c.args.before c.args.sort) c.requires.distinct _ _ _ c.outward.invariant
    (λ f. true≢false (sym (c.is_found.ensures.1 f) ∙ c.if-is_found.false))
    c.outer-at.ensures.within (c.outer-at.ensures.inner (omega (arith, c.if-at-eq0.false))).1
