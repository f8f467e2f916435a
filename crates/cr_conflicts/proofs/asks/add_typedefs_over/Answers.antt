use Rattle.cr_conflicts.proofs.Topped.{typedefs_over}
use Rattle.cr_conflicts.proofs.asks.add_typedefs_over.Goals as goal

pub returns : goal.returns
returns c =
    typedefs_over c.args.paths.now c.args.groups.now.entries c.args.names.old c.args.names.new c.args.asked.path c.args.asked.before c.args.site _ _ _ _ _
    c.ordinary.ensures c.ordinary-sought.ensures c.top-over.ensures c.in_ok-add_deeper.ensures
