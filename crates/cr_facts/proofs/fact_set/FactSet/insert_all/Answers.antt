use Rattle.std.proofs.Common.{sym, ap, ◌∙◌, subst}
use Rattle.std.specs.FinSet.{insert, union}
use Rattle.std.specs.Map.Iter.{deref}
use Rattle.std.proofs.lemmas.Map.Iter.{rest_all, rest_more}
use Rattle.cr_facts.specs.FactOrder.{Facts}
use Rattle.cr_facts.proofs.Members.{all_of, added, added_is, IsWithin, within_insert, kept, partly, err_holds}
use Rattle.cr_facts.proofs.Ties.{fact_total, fact_same}
use Rattle.cr_facts.proofs.fact_set.FactSet.insert_all.Goals as goal

pub returns-in_err-copy-clause-err : goal.returns-in_err-copy-clause-err
returns-in_err-copy-clause-err c =
    err_holds c.from_residual.result _
    (partly fact_total fact_same c.args.self.now c.loop-fact.self c.args.facts.now c.loop-fact.fact-iterator c.into_iter-fact-iterator.result (ap all_of c.into_iter-fact-iterator.ensures.into_iter_gives ∙ c.iter-fact-items.ensures.facts) c.loop-fact.invariant.0 c.loop-fact.invariant.1)

pub returns-in_err-copy-clause-kept : goal.returns-in_err-copy-clause-kept
returns-in_err-copy-clause-kept c = err_holds c.from_residual.result _ (kept fact_total fact_same c.args.self.now c.loop-fact.self c.loop-fact.invariant.1)

pub loop-fact-preserved : goal.loop-fact-preserved
loop-fact-preserved c =
    let more = rest_more deref c.loop-fact.fact-iterator c.next.new.self c.next.result c.in-Some.fact c.in-Some.is c.next.ensures.steps in
    let now = c.in_ok-insert.ensures.ok ∙ ap (insert c.loop-fact.self) c.in_ok-copy.ensures in
    let P : Facts → Type 0 = IsWithin c.args.self.now in (
      ap (λ (s : Facts). added s c.next.new.self) now ∙ sym (ap (added c.loop-fact.self) more) ∙ c.loop-fact.invariant.0,
      subst P (sym now) (within_insert fact_total fact_same c.args.self.now c.loop-fact.self c.in-Some.fact.now c.loop-fact.invariant.1),
    )

pub returns-in_err-insert-clause-err : goal.returns-in_err-insert-clause-err
returns-in_err-insert-clause-err c =
    err_holds c.from_residual-in_err-insert.result _
    (ap (λ (s : Facts). union s c.args.facts.now) c.in_err-insert.ensures.err
    ∙ partly fact_total fact_same c.args.self.now c.loop-fact.self c.args.facts.now c.loop-fact.fact-iterator c.into_iter-fact-iterator.result (ap all_of c.into_iter-fact-iterator.ensures.into_iter_gives ∙ c.iter-fact-items.ensures.facts) c.loop-fact.invariant.0 c.loop-fact.invariant.1)

pub returns-in_err-insert-clause-kept : goal.returns-in_err-insert-clause-kept
returns-in_err-insert-clause-kept c =
    err_holds c.from_residual-in_err-insert.result _
    (ap (λ (s : Facts). union s c.args.self.now) c.in_err-insert.ensures.err ∙ kept fact_total fact_same c.args.self.now c.loop-fact.self c.loop-fact.invariant.1 ∙ sym c.in_err-insert.ensures.err)

pub returns-clause-ok : goal.returns-clause-ok
returns-clause-ok c =
    let done = rest_all deref c.loop-fact.fact-iterator c.next.new.self c.next.result c.in-None.is c.next.ensures.steps in
    sym (ap (added c.loop-fact.self) done) ∙ c.loop-fact.invariant.0 ∙ added_is fact_total fact_same c.args.self.now c.args.facts.now c.into_iter-fact-iterator.result (ap all_of c.into_iter-fact-iterator.ensures.into_iter_gives ∙ c.iter-fact-items.ensures.facts)
