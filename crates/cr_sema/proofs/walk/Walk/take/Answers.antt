use Rattle.std.proofs.lemmas.Result.{err_from_is_err_and}
use Rattle.cr_sema.proofs.walk.Walk.take.Goals as goal

pub returns-in_err-bind : goal.returns-in_err-bind
returns-in_err-bind c =
    λ es come next.
    (let p = err_from_is_err_and c.from_residual-in_err-bind.result c.from_residual-in_err-bind.ensures.1 in rw (p.1, p.2) (c.in_err-bind.ensures es (c.in_ok-lead.ensures es come next)))
