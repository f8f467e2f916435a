use Rattle.std.proofs.Common.{◌∙◌, ap}
use Rattle.cr_scope.specs.Declarations.{Flat, declared}
use Rattle.cr_scope.proofs.Declared.{declared_from}
use Rattle.cr_scope.proofs.Scopes.declare.Goals as goal

pub invariant_of-self-2 : goal.invariant_of-self-2
invariant_of-self-2 c =
    (declared_from _ _ _ _ _ c.self.invariant c.args.d _ _ _ c.deref.ensures.value c.scope_for-scope.ensures c.in_ok-push.ensures.items).0

pub returns-clause-ok : goal.returns-clause-ok
returns-clause-ok c =
    (declared_from _ _ _ _ _ c.self.invariant c.args.d _ _ _ c.deref.ensures.value c.scope_for-scope.ensures c.in_ok-push.ensures.items).1
    ∙ ap (λ (f : Flat). declared f c.args.d) c.self.view_is
