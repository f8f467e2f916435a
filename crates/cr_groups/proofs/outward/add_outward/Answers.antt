use Rattle.std.proofs.Common.{arith}
use Rattle.cr_groups.specs.Outward.{IsHere, beside}
use Rattle.cr_groups.proofs.Around.{at_once, outward, at_file, shallow}
use Rattle.cr_groups.proofs.outward.add_outward.Goals as goal

pub outward-init : goal.outward-init
outward-init c = at_once _ _ _ (λ q. IsHere c.args.groups.now.entries (beside q c.args.sought) c.args.before c.args.sort c.args.site) c.requires.distinct _ _ c.requires.within c.depth-deep.ensures.is

pub returns-then-deep-limit : goal.returns-then-deep-limit
returns-then-deep-limit c =
    shallow _ _ _ (λ q. IsHere c.args.groups.now.entries (beside q c.args.sought) c.args.before c.args.sort c.args.site) c.requires.distinct _ _ _ _ c.outward.invariant c.if-deep-limit.true

pub returns-then-at-eq0 : goal.returns-then-at-eq0
returns-then-at-eq0 c =
    at_file _ _ _ (λ q. IsHere c.args.groups.now.entries (beside q c.args.sought) c.args.before c.args.sort c.args.site) c.requires.distinct _ _ _ _ _ c.outward.invariant (omega (arith, c.if-deep-limit.false)) c.in_ok-add_here.ensures c.if-at-eq0.true c.requires.file_scope

pub outward-preserved : goal.outward-preserved
outward-preserved c =
    outward _ _ _ (λ q. IsHere c.args.groups.now.entries (beside q c.args.sought) c.args.before c.args.sort c.args.site) c.requires.distinct _ _ _ _ _ _ _ c.outward.invariant (omega (arith, c.if-deep-limit.false)) c.in_ok-add_here.ensures c.outer-at.ensures.within (c.outer-at.ensures.inner (omega (arith, c.if-at-eq0.false))).1
