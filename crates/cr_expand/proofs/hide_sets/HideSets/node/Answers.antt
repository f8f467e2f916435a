use Rattle.std.proofs.Common.{◌≡◌, [], ap, ◌∙◌, subst}
use Rattle.cr_expand.specs.HideSets.{set_at, sets_of}
use Rattle.cr_expand.proofs.Sets.{first_is_empty}
use Rattle.cr_expand.proofs.hide_sets.HideSets.node.Goals as goal

pub returns-then-set-eq0 : goal.returns-then-set-eq0
returns-then-set-eq0 c = subst (λ s. set_at s c.args.set.0 ≡ []) c.self.view_is (ap (set_at (sets_of c.self.inside.nodes.keys)) c.if-set-eq0.true ∙ first_is_empty c.self.inside.nodes.keys)
