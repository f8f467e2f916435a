use Rattle.std.proofs.Common.{subst, sym}
use Rattle.std.proofs.lemmas.Result.{err_from_is_err_and}
use Rattle.cr_names.specs.Kept.{KnownNames, IsOf}
use Rattle.cr_names.proofs.Jumping.{one_more, one_fails, all_bound, next_jump, no_jump}
use Rattle.cr_names.proofs.names.Names.all_jumps.Goals as goal

pub returns-in_err-jump-clause-ill : goal.returns-in_err-jump-clause-ill
returns-in_err-jump-clause-ill c =
    let p = err_from_is_err_and c.from_residual.result c.from_residual.ensures.1 in
    rw (p.1, p.2)
    (one_fails _ _ _ _ _ c.loop-i.invariant _ c.name_at.result (next_jump _ _ c.loop-i-test.true) c.name_at.ensures _ c.in_err-jump.ensures.ill)

pub returns-in_err-jump-clause-typed : goal.returns-in_err-jump-clause-typed
returns-in_err-jump-clause-typed c t of = subst (λ (x : KnownNames). IsOf t x) (sym c.in_err-jump.ensures.err) (c.loop-i.invariant.typed t of)

pub loop-i-preserved : goal.loop-i-preserved
loop-i-preserved c =
    one_more _ _ _ _ _ c.loop-i.invariant _ c.name_at.result (next_jump _ _ c.loop-i-test.true) c.name_at.ensures _ c.in_ok-jump.ensures.ok

pub returns-clause-ok : goal.returns-clause-ok
returns-clause-ok c = all_bound _ _ _ _ _ (no_jump _ _ c.loop-i-test.false) c.loop-i.invariant
