use Rattle.std.proofs.lemmas.Result.{err_from_is_err_and}
use Rattle.cr_bound.proofs.Reading.{passed_as, pass_fails}
use Rattle.cr_bound.proofs.bound.Bound.pass.Goals as goal

pub returns-in_err-read-clause-ill : goal.returns-in_err-read-clause-ill
returns-in_err-read-clause-ill c =
    let p = err_from_is_err_and c.from_residual.result c.from_residual.ensures.1 in
    rw (p.1, p.2) (pass_fails _ _ _ _ _ c.reads.ensures _ c.in_err-read.ensures.ill)

pub returns-clause-ok : goal.returns-clause-ok
returns-clause-ok c = passed_as _ _ _ _ _ c.reads.ensures _ c.in_ok-read.ensures.ok
