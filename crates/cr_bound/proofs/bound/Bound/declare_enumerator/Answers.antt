use Rattle.std.proofs.Common.{refl}
use Rattle.std.proofs.lemmas.Result.{err_from_is_err_and}
use Rattle.cr_bound.proofs.Declares.{formed_plain, bare_plain, enumerator_declared, enumerator_fails, enumerator_typed}
use Rattle.cr_bound.proofs.bound.Bound.declare_enumerator.Goals as goal

pub declare-requires-clause-formed : goal.declare-requires-clause-formed
declare-requires-clause-formed c = formed_plain _ _ _ _ refl c.declaration-declared.ensures

pub declare-requires-clause-bare : goal.declare-requires-clause-bare
declare-requires-clause-bare c = bare_plain _ _ _ _ _ c.declaration-declared.ensures

pub returns-in_err-declare-clause-ill : goal.returns-in_err-declare-clause-ill
returns-in_err-declare-clause-ill c =
    let p = err_from_is_err_and c.from_residual.result c.from_residual.ensures.1 in
    rw (p.1, p.2) (enumerator_fails c.args.self.now c.args.token c.name_at-name.result c.args.tokens.now c.name_at-name.ensures _ c.declaration-declared.ensures _ c.in_err-declare.ensures.ill)

pub returns-clause-ok : goal.returns-clause-ok
returns-clause-ok c = enumerator_declared c.args.self.now c.args.token c.name_at-name.result c.args.tokens.now c.name_at-name.ensures _ c.declaration-declared.ensures _ c.in_ok-declare.ensures.ok

pub returns-clause-typed : goal.returns-clause-typed
returns-clause-typed c = enumerator_typed c.args.self.now c.args.token c.name_at-name.result c.args.tokens.now c.name_at-name.ensures _ c.declaration-declared.ensures _ c.in_ok-declare.ensures.ok
