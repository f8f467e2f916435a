use Rattle.cr_conflicts.proofs.Topped.{no_typedef, over_typedef}
use Rattle.cr_conflicts.proofs.asks.add_over_typedef.Goals as goal

pub returns-in_default : goal.returns-in_default
returns-in_default c =
    no_typedef c.args.paths.now c.args.groups.now.entries c.args.names.old c.args.names.new c.args.asked.path c.args.asked.before c.args.site _ _ c.ordinary-sought.ensures c.in_default.ensures

pub returns : goal.returns
returns c =
    over_typedef c.args.paths.now c.args.groups.now.entries c.args.names.old c.args.names.new c.args.asked.path c.args.asked.before c.args.site _ _ _ _ _
    c.ordinary-sought.ensures c.in-Some.ensures c.depth.ensures.is c.in_ok-add_deeper.ensures
