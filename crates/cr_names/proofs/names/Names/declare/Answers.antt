use Rattle.std.proofs.Common.{◌++◌, ◌∷◌, [], ◌∙◌, ap, subst}
use Rattle.std.specs.Prelude.{Err}
use Rattle.cr_base.specs.declared.cause.IllCause.TheVariants as cause
use Rattle.cr_names.specs.Kept.{KnownNames}
use Rattle.cr_names.specs.Names.{IsNamed, Fails, declared_as}
use Rattle.cr_names.proofs.Doing.{declared_fails, declared_more, declared_keeps}
use Rattle.cr_names.proofs.names.Names.declare.Goals as goal

pub invariant_of-self-in-Ok : goal.invariant_of-self-in-Ok
invariant_of-self-in-Ok c =
    declared_keeps _ c.self.invariant c.args.d c.requires.bare c.args.ty _ _ c.in-Ok.ensures.ok (c.push_type.ensures ∙ ap (λ ns. ns ++ c.args.ty ∷ []) c.reserve.ensures.items)

pub returns-in-Ok-clause-ok : goal.returns-in-Ok-clause-ok
returns-in-Ok-clause-ok c =
    rw (← c.self.view_is)
    (declared_more _ c.self.invariant c.args.d c.requires.bare c.args.ty _ _ c.in-Ok.ensures.ok (c.push_type.ensures ∙ ap (λ ns. ns ++ c.args.ty ∷ []) c.reserve.ensures.items) c.in-Ok.ensures.free)

pub returns-in-Err-Redeclared-clause-ill : goal.returns-in-Err-Redeclared-clause-ill
returns-in-Err-Redeclared-clause-ill c =
    subst (λ (x : KnownNames). Fails (IsNamed c.args.d.token c.args.d.name) x (declared_as c.args.d c.args.ty) cause.Redeclared c.args.d.token) c.self.view_is
    (declared_fails _ c.self.invariant c.args.d c.requires.bare c.args.ty (c.in-Err-Redeclared.ensures.redeclared.0 (ap Err c.in-Err-Redeclared.field-0-is)))
