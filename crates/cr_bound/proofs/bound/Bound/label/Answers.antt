use Rattle.std.proofs.lemmas.Result.{err_from_is_err_and}
use Rattle.cr_bound.proofs.Scopes.{label_declared, label_fails}
use Rattle.cr_bound.proofs.bound.Bound.label.Goals as goal

pub returns-in_err-declare-clause-ill : goal.returns-in_err-declare-clause-ill
returns-in_err-declare-clause-ill c =
    let p = err_from_is_err_and c.from_residual.result c.from_residual.ensures.1 in
    rw (p.1, p.2) (label_fails c.args.self.now _ c.name_at.result c.name_at.ensures _ c.in_err-declare.ensures.ill)

pub returns-clause-ok : goal.returns-clause-ok
returns-clause-ok c = label_declared c.args.self.now _ c.name_at.result c.name_at.ensures _ c.in_ok-declare.ensures.ok
