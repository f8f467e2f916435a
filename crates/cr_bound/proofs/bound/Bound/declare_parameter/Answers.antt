use Rattle.std.proofs.lemmas.Result.{err_from_is_err_and}
use Rattle.cr_bound.specs.Declaring.{parameter_typed}
use Rattle.cr_bound.proofs.Declares.{parameter_ended, parameter_fails, with_fails}
use Rattle.cr_bound.proofs.bound.Bound.declare_parameter.Goals as goal

pub returns-in_err-put_parameter-clause-ill : goal.returns-in_err-put_parameter-clause-ill
returns-in_err-put_parameter-clause-ill c =
    let p = err_from_is_err_and c.from_residual-in_err-put_parameter.result c.from_residual-in_err-put_parameter.ensures.1 in
    rw (p.1, p.2)
    (parameter_fails c.args.types.now _ c.args.self.now c.in_ok-ty.ensures.grows c.args.parts.now c.args.tokens.now _ c.in-Some.is c.name_at.result c.name_at.ensures _ c.in_ok-ty.ensures.meant _
    (with_fails _ _ c.args.self.now (parameter_typed c.in-Some.token) _ c.in_ok-ty.ensures.grows.typed c.in_ok-ty.ensures.given _ c.in_err-put_parameter.ensures.ill))

pub returns-clause-ok : goal.returns-clause-ok
returns-clause-ok c =
    parameter_ended c.args.types.now _ c.args.self.now c.in_ok-ty.ensures.grows c.args.parts.now c.args.tokens.now _ c.in-Some.is c.name_at.result c.name_at.ensures _ c.in_ok-ty.ensures.meant _
    (c.in_ok-put_parameter.ensures.ok _ c.in_ok-ty.ensures.grows.typed c.in_ok-ty.ensures.given)
