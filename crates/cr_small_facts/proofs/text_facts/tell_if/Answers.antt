use Rattle.std.proofs.Common.{[], sym, ap, ◌∙◌}
use Rattle.std.specs.FinSet.{union, insert, from_list}
use Rattle.cr_facts.specs.FactOrder.{fact_cmp}
use Rattle.cr_small_facts.specs.TextFacts.{fact_if}
use Rattle.cr_small_facts.proofs.Sets.{union_none, union_more}
use Rattle.cr_small_facts.proofs.text_facts.tell_if.Goals as goal

pub returns-in_ok-insert : goal.returns-in_ok-insert
returns-in_ok-insert c =
    let law = c.facts_are_ordered.ensures in
    c.in_ok-insert.ensures.ok
    ∙ sym (union_none law.total law.ties (insert c.args.facts.now c.args.fact))
    ∙ sym (union_more law.total law.ties c.args.facts.now c.args.fact [])
    ∙ ap (λ b. union c.args.facts.now (from_list {R = fact_cmp} (fact_if b c.args.fact))) (sym c.if-holds.true)

pub returns-else-holds : goal.returns-else-holds
returns-else-holds c =
    let law = c.facts_are_ordered.ensures in
    sym (union_none law.total law.ties c.args.facts.now)
    ∙ ap (λ b. union c.args.facts.now (from_list {R = fact_cmp} (fact_if b c.args.fact))) (sym c.if-holds.false)
