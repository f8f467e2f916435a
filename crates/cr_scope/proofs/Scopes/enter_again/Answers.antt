use Rattle.std.proofs.Common.{ℕ, List, sym, subst}
use Rattle.cr_scope.specs.Declarations.{Flat, IsInside}
use Rattle.cr_scope.specs.Kept.{IsKept}
use Rattle.cr_scope.proofs.Moves.{again_kept}
use Rattle.cr_scope.proofs.Scopes.enter_again.Goals as goal

pub invariant_of-self-2 : goal.invariant_of-self-2
invariant_of-self-2 c =
    let B : Flat → Type 0 = λ f. IsInside f c.args.s in
    let below = subst B (sym c.self.view_is) c.requires in
    let K : List ℕ → Type 0 = λ q. IsKept c.self.inside.parents.items c.self.inside.depths.items q c.args.s.0 c.self.inside.entries.items in
    subst K (sym c.in_ok-push.ensures.items) (again_kept c.self.inside.parents.items c.self.inside.depths.items c.self.inside.present.items c.self.inside.current c.self.inside.entries.items c.self.invariant c.args.s.0 below.0 below.1)
