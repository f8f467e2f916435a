use Rattle.std.proofs.lemmas.Result.{err_from_is_err_and}
use Rattle.cr_compdb.proofs.Refusals.{has_value, gives_same, given_ok, given_err, given_no_value}
use Rattle.cr_compdb.proofs.database.read_db.Goals as goal

pub returns-in_err-value-clause-fault : goal.returns-in_err-value-clause-fault
returns-in_err-value-clause-fault c =
    let p = err_from_is_err_and c.from_residual.result c.from_residual.ensures.1 in
    rw (p.1, p.2) (given_no_value c.args.bytes.now _ c.in_err-value.ensures)

pub returns-clause-ok : goal.returns-clause-ok
returns-clause-ok c = given_ok _ _ _ (gives_same _ _ _ _ (has_value _ _ c.in_ok-value.ensures) c.units_of.ensures)

pub returns-clause-fault : goal.returns-clause-fault
returns-clause-fault c = given_err _ _ _ (gives_same _ _ _ _ (has_value _ _ c.in_ok-value.ensures) c.units_of.ensures)
