use Rattle.std.proofs.Common.{subst, sym}
use Rattle.cr_names.specs.Kept.{KnownNames, IsOf}
use Rattle.std.proofs.lemmas.Result.{err_from_is_err_and}
use Rattle.cr_names.specs.Names.{declared_as}
use Rattle.cr_bound.specs.Declaring.{seeing}
use Rattle.cr_bound.proofs.Declares.{both_done, both_failed}
use Rattle.cr_bound.proofs.declaring.make.Goals as goal

pub returns-in_err-declare-clause-ill : goal.returns-in_err-declare-clause-ill
returns-in_err-declare-clause-ill c =
    let p = err_from_is_err_and c.from_residual-in_err-declare.result c.from_residual-in_err-declare.ensures.1 in
    rw (p.1, p.2)
    (both_failed _ _ _ (seeing c.args.making.takes c.args.making.decl.token c.args.making.denoted) (declared_as c.args.making.decl c.args.ty) _ c.in_ok-see.ensures.ok c.in_err-declare.ensures.ill)

pub returns-clause-ok : goal.returns-clause-ok
returns-clause-ok c t given = both_done t _ _ _ _ _ (declared_as c.args.making.decl c.args.ty t) c.in_ok-see.ensures.ok (c.in_ok-declare.ensures.ok t given)

pub returns-clause-typed : goal.returns-clause-typed
returns-clause-typed c t given of = (c.in_ok-declare.ensures.ok t given).typed ((c.in_ok-see.ensures.ok t).typed of)

pub returns-in_err-declare-clause-typed : goal.returns-in_err-declare-clause-typed
returns-in_err-declare-clause-typed c t given of =
    subst (λ (x : KnownNames). IsOf t x) (sym c.in_err-declare.ensures.err) ((c.in_ok-see.ensures.ok t).typed of)
