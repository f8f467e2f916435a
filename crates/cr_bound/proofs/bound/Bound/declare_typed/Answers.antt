use Rattle.std.proofs.lemmas.Result.{err_from_is_err_and}
use Rattle.cr_bound.proofs.Declares.{made_does, made_fails}
use Rattle.cr_bound.proofs.bound.Bound.declare_typed.Goals as goal

pub returns-in_err-make-clause-ill : goal.returns-in_err-make-clause-ill
returns-in_err-make-clause-ill c =
    let p = err_from_is_err_and c.from_residual.result c.from_residual.ensures.1 in
    rw (p.1, p.2)
    (made_fails c.args.types.now c.args.self.now c.args.token c.args.name c.args.ty c.making-making.result c.making-making.ensures.made c.making-making.ensures.token c.making-making.ensures.name _ c.in_err-make.ensures.ill)

pub returns-clause-ok : goal.returns-clause-ok
returns-clause-ok c =
    made_does c.args.types.now c.args.self.now c.args.token c.args.name c.args.ty c.making-making.result c.making-making.ensures.made c.making-making.ensures.token c.making-making.ensures.name _ (c.in_ok-make.ensures.ok _ c.requires.given)

pub returns-in_err-make-clause-typed : goal.returns-in_err-make-clause-typed
returns-in_err-make-clause-typed c = record {
  names = c.in_err-make.ensures.typed c.args.types.now c.requires.given c.requires.typed.names;
  records = c.requires.typed.records;
  base = c.requires.typed.base;
  filled = c.requires.typed.filled;
  basics = c.requires.typed.basics;
}

pub returns-clause-typed : goal.returns-clause-typed
returns-clause-typed c = record {
  names = c.in_ok-make.ensures.typed c.args.types.now c.requires.given c.requires.typed.names;
  records = c.requires.typed.records;
  base = c.requires.typed.base;
  filled = c.requires.typed.filled;
  basics = c.requires.typed.basics;
}
