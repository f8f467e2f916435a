use Rattle.std.proofs.Common.{arith, sym}
use Rattle.std.proofs.lemmas.Result.{err_from_is_err_and}
use Rattle.cr_survey.proofs.Runs.{told_none, told_bad, told_more}
use Rattle.cr_survey.proofs.batch.+tell.Goals as goal

pub returns-in_err-tell_one-in-len1-up-clause-told : goal.returns-in_err-tell_one-in-len1-up-clause-told
returns-in_err-tell_one-in-len1-up-clause-told t c old new ends =
    let p = err_from_is_err_and c.from_residual.result c.from_residual.ensures.1 in
    (told_bad _ c.args.snapshot.now old new c.args.runs.now c.run-item.result c.args.facts.now _ _ p.0 (omega (arith, c.in-len1-up.len_at_least)) (sym c.run-item.is) p.1 p.2 c.in_err-tell_one-in-len1-up.ensures.told ends)

pub returns-in-empty-clause-told : goal.returns-in-empty-clause-told
returns-in-empty-clause-told t c old new ends = told_none c.args.snapshot.now old new c.args.runs.now c.args.facts.now (omega (arith, c.in-empty.len_below))

pub returns-in_ok-tell_one-in-len1-up-clause-told : goal.returns-in_ok-tell_one-in-len1-up-clause-told
returns-in_ok-tell_one-in-len1-up-clause-told t c old new ends =
    told_more c.args.snapshot.now old new c.args.runs.now c.run-item.result c.args.facts.now _ _ _ (omega (arith, c.in-len1-up.len_at_least)) (sym c.run-item.is) c.in_ok-tell_one-in-len1-up.ensures.told ends (λ rest. c.tell.ensures.told old new rest)
