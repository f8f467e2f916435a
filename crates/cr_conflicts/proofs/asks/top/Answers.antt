use Rattle.cr_conflicts.proofs.Topped.{top_none, top_some}
use Rattle.cr_conflicts.proofs.asks.top.Goals as goal

pub returns-in-Some : goal.returns-in-Some
returns-in-Some c = top_some c.args.paths.now c.args.groups.now.entries c.args.sought c.args.before _ _ c.in-Some.ensures c.depth.ensures.is

pub returns-in-None : goal.returns-in-None
returns-in-None c = top_none c.args.paths.now c.args.groups.now.entries c.args.sought c.args.before c.in-None.ensures
