use Rattle.std.proofs.Common.{refl}
use Rattle.std.proofs.lemmas.Result.{err_from_is_err_and}
use Rattle.cr_bound.proofs.Lenses.{names_typed}
use Rattle.cr_bound.proofs.Scopes.{body_left, body_typed, body_fails}
use Rattle.cr_bound.proofs.bound.Bound.end_body.Goals as goal

pub returns-in_err-all_jumps-clause-ill : goal.returns-in_err-all_jumps-clause-ill
returns-in_err-all_jumps-clause-ill c =
    let p = err_from_is_err_and c.from_residual.result c.from_residual.ensures.1 in
    rw (p.1, p.2) (body_fails _ _ _ c.deref.ensures.value _ c.in_err-all_jumps.ensures.ill)

pub returns-in_err-all_jumps-clause-typed : goal.returns-in_err-all_jumps-clause-typed
returns-in_err-all_jumps-clause-typed c = names_typed _ _ c.in_err-all_jumps.ensures.typed

pub returns-clause-ok : goal.returns-clause-ok
returns-clause-ok c =
    body_left _ _ refl c.clear.ensures.items refl refl refl _ _ _ _ c.deref.ensures.value c.in_ok-all_jumps.ensures.ok c.leave.ensures refl

pub returns-clause-typed : goal.returns-clause-typed
returns-clause-typed c =
    body_typed _ _ refl c.clear.ensures.items refl refl refl _ (λ t h. (c.leave.ensures t).typed (c.in_ok-all_jumps.ensures.typed t h))
