use Rattle.std.proofs.Common.{refl, subst, sym}
use Rattle.std.proofs.lemmas.Result.{err_from_is_err_and}
use Rattle.cr_names.specs.Kept.{KnownNames, IsOf}
use Rattle.cr_bound.proofs.Declares.{formed_plain, bare_plain, parameter_does, parameter_refused, parameter_typed_on}
use Rattle.cr_bound.proofs.bound.Bound.put_parameter.Goals as goal

pub declare-requires-clause-formed : goal.declare-requires-clause-formed
declare-requires-clause-formed c = formed_plain _ _ _ _ refl c.declaration-declared.ensures

pub declare-requires-clause-bare : goal.declare-requires-clause-bare
declare-requires-clause-bare c = bare_plain _ _ _ _ _ c.declaration-declared.ensures

pub returns-in_err-declare-clause-ill : goal.returns-in_err-declare-clause-ill
returns-in_err-declare-clause-ill c =
    let p = err_from_is_err_and c.from_residual-in_err-declare.result c.from_residual-in_err-declare.ensures.1 in
    rw (p.1, p.2) (parameter_refused c.args.self.now c.args.token c.args.name _ c.args.ty c.declaration-declared.ensures _ c.in_ok-use_parameter.ensures.ok _ c.in_err-declare.ensures.ill)

pub returns-in_err-declare-clause-typed : goal.returns-in_err-declare-clause-typed
returns-in_err-declare-clause-typed c =
    parameter_typed_on c.args.self.now c.args.token c.args.name _ c.args.ty c.declaration-declared.ensures _ c.in_ok-use_parameter.ensures.ok _
    (λ t given of. subst (λ (x : KnownNames). IsOf t x) (sym c.in_err-declare.ensures.err) of)

pub returns-clause-ok : goal.returns-clause-ok
returns-clause-ok c =
    parameter_does c.args.self.now c.args.token c.args.name _ c.args.ty c.declaration-declared.ensures _ c.in_ok-use_parameter.ensures.ok _ c.in_ok-declare.ensures.ok

pub returns-clause-typed : goal.returns-clause-typed
returns-clause-typed c =
    parameter_typed_on c.args.self.now c.args.token c.args.name _ c.args.ty c.declaration-declared.ensures _ c.in_ok-use_parameter.ensures.ok _
    (λ t given of. (c.in_ok-declare.ensures.ok t given).typed of)
