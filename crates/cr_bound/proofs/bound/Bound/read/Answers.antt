use Rattle.std.proofs.lemmas.Result.{err_from_is_err_and}
use Rattle.cr_bound.proofs.Reading.{specifier_read, specifier_refused}
use Rattle.cr_bound.proofs.bound.Bound.read.Goals as goal

pub returns-in_err-read-in-Specifier-clause-ill : goal.returns-in_err-read-in-Specifier-clause-ill
returns-in_err-read-in-Specifier-clause-ill c =
    let p = err_from_is_err_and c.from_residual.result c.from_residual.ensures.1 in
    rw (c.in-Specifier.is, p.1, p.2) (specifier_refused _ _ _ _ c.specifier.ensures _ c.in_err-read-in-Specifier.ensures.ill)

pub returns-in_ok-read-in-Specifier-clause-ok : goal.returns-in_ok-read-in-Specifier-clause-ok
returns-in_ok-read-in-Specifier-clause-ok c =
    rw (c.in-Specifier.is) (specifier_read _ _ _ _ c.specifier.ensures _ c.in_ok-read-in-Specifier.ensures.ok)
