use Rattle.std.proofs.Common.{◌∙◌, ap}
use Rattle.cr_scope.specs.Declarations.{Flat}
use Rattle.cr_scope.specs.Redeclaration.{is_redeclared}
use Rattle.cr_scope.proofs.Declared.{redeclared_from}
use Rattle.cr_scope.proofs.Scopes.is_redeclared.Goals as goal

pub returns : goal.returns
returns c =
    c.any_clash.ensures
    ∙ redeclared_from _ _ _ _ _ c.self.invariant c.args.d.now _ _ _ c.deref-2.ensures.value c.deref.ensures.value c.scope_for.ensures
    ∙ ap (λ (f : Flat). is_redeclared f c.args.d.now) c.self.view_is
