use Rattle.std.proofs.lemmas.Result.{err_from_is_err_and}
use Rattle.cr_bound.proofs.Declares.{declarator_ended, declarator_fails}
use Rattle.cr_bound.proofs.bound.Bound.declare.Goals as goal

pub returns-in_err-declare_typed-clause-ill : goal.returns-in_err-declare_typed-clause-ill
returns-in_err-declare_typed-clause-ill c =
    let p = err_from_is_err_and c.from_residual-in_err-declare_typed.result c.from_residual-in_err-declare_typed.ensures.1 in
    rw (p.1, p.2)
    (declarator_fails c.args.types.now _ c.args.self.now c.in_ok-ty.ensures.grows c.args.parts.now c.args.tokens.now _ c.in-Some.is c.name_at.result c.name_at.ensures _ c.in_ok-ty.ensures.meant _ c.in_err-declare_typed.ensures.ill)

pub returns-clause-ok : goal.returns-clause-ok
returns-clause-ok c =
    declarator_ended c.args.types.now _ c.args.self.now c.in_ok-ty.ensures.grows c.args.parts.now c.args.tokens.now _ c.in-Some.is c.name_at.result c.name_at.ensures _ c.in_ok-ty.ensures.meant _ c.in_ok-declare_typed.ensures.ok
