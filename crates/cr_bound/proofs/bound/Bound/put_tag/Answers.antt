use Rattle.std.proofs.lemmas.Result.{err_from_is_err_and}
use Rattle.cr_bound.proofs.Tagging.{tag_formed, tag_bare, tag_does, tag_fails, tag_typed}
use Rattle.cr_bound.proofs.bound.Bound.put_tag.Goals as goal

pub declare-requires-clause-formed : goal.declare-requires-clause-formed
declare-requires-clause-formed c = tag_formed _ _ _ _ _ c.kind_of-kind.ensures c.declaration-declared.ensures

pub declare-requires-clause-bare : goal.declare-requires-clause-bare
declare-requires-clause-bare c = tag_bare _ _ _ _ c.declaration-declared.ensures

pub returns-in_err-declare-clause-ill : goal.returns-in_err-declare-clause-ill
returns-in_err-declare-clause-ill c =
    let p = err_from_is_err_and c.from_residual.result c.from_residual.ensures.1 in
    rw (p.1, p.2) (tag_fails c.args.self.now c.args.token c.args.name c.args.ty _ _ c.kind_of-kind.ensures c.declaration-declared.ensures _ c.in_err-declare.ensures.ill)

pub returns-clause-ok : goal.returns-clause-ok
returns-clause-ok c = tag_does c.args.self.now c.args.token c.args.name c.args.ty _ _ c.kind_of-kind.ensures c.declaration-declared.ensures _ c.in_ok-declare.ensures.ok

pub returns-clause-typed : goal.returns-clause-typed
returns-clause-typed c = tag_typed c.args.self.now c.args.token c.args.name c.args.ty _ _ c.kind_of-kind.ensures c.declaration-declared.ensures _ c.in_ok-declare.ensures.ok
