use Rattle.std.proofs.Common.{◌∙◌, ap}
use Rattle.cr_known.specs.Nested.{nest_acted}
use Rattle.cr_known.proofs.Nesting.{acted}
use Rattle.cr_known.proofs.nest.Nest.act.Goals as goal

pub returns-clause-ok : goal.returns-clause-ok
returns-clause-ok c =
    acted c.self.inside.inner c.self.inside.childless c.self.inside.above.items _ _ c.self.inside.closed c.args.action c.self.invariant.0 c.self.invariant.1 c.in_ok-act.ensures.ok
    ∙ ap (nest_acted c.args.action) c.self.view_is
