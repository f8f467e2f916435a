use Rattle.std.proofs.Common.{◌+◌, arith, subst, sym}
use Rattle.cr_groups.specs.Adding.{Adds}
use Rattle.cr_groups.specs.Outward.{limit_over, IsHere, IsAround, beside}
use Rattle.cr_groups.proofs.Around.{none_deeper}
use Rattle.cr_groups.proofs.outward.add_deeper.Goals as goal

pub returns-then-depth-over : goal.returns-then-depth-over
returns-then-depth-over c =
    subst (λ z. Adds c.args.facts.now c.args.facts.now (IsAround c.args.paths.now c.args.groups.now.entries c.args.sought c.args.before (limit_over z) c.args.sort c.args.site)) (sym c.in-Some.is)
    (none_deeper c.args.paths.now c.args.sought.path (1 + c.in-Some.over) (λ q. IsHere c.args.groups.now.entries (beside q c.args.sought) c.args.before c.args.sort c.args.site) c.args.facts.now (omega (arith, c.depth.ensures.is, c.if-depth-over.true)))
