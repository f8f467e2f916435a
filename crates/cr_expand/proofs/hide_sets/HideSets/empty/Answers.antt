use Rattle.std.proofs.Common.{◌≡◌, [], length, arith, ap, subst}
use Rattle.cr_expand.specs.HideSets.{set_at}
use Rattle.cr_expand.proofs.Sets.{first_is_empty, length_sets}
use Rattle.cr_expand.proofs.hide_sets.HideSets.empty.Goals as goal

pub returns : goal.returns
returns c =
    let a = ap length c.self.view_is in
    let b = length_sets c.self.inside.nodes.keys in
    (omega (arith, a, b), subst (λ s. set_at s 0 ≡ []) c.self.view_is (first_is_empty c.self.inside.nodes.keys))
