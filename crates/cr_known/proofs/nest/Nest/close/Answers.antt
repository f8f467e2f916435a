use Rattle.std.proofs.Common.{◌∙◌, ap}
use Rattle.cr_known.specs.Nested.{nest_closed}
use Rattle.cr_known.specs.Kept.{parts_ended}
use Rattle.cr_known.proofs.Nesting.{closed_nest}
use Rattle.cr_known.proofs.nest.Nest.close.Goals as goal

pub returns-clause-ok : goal.returns-clause-ok
returns-clause-ok c =
    closed_nest c.self.inside.inner c.pop_row-upper.result c.self.inside.childless c.self.inside.above.items _ _ _ c.self.inside.closed _ c.pop_row-upper.ensures c.self.invariant.0 c.self.invariant.1
    (c.in_ok-end.ensures.ok ∙ ap (λ b. parts_ended b c.self.inside.inner.start c.self.inside.parts) c.is_declarator.ensures) c.behind.ensures
    ∙ ap nest_closed c.self.view_is
