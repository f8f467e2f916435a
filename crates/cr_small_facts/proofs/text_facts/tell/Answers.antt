use Rattle.std.proofs.Common.{ap, ◌∙◌}
use Rattle.std.specs.FinSet.{insert}
use Rattle.cr_base.specs.declared.cause.Role.TheVariants as role
use Rattle.cr_facts.specs.declared.fact.Fact.TheVariants as fact
use Rattle.cr_small_facts.specs.TextFacts.{kind_of, fact_if}
use Rattle.cr_small_facts.proofs.Tokens.{and_all, told_in_turn}
use Rattle.cr_small_facts.proofs.text_facts.tell.Goals as goal

pub returns : goal.returns
returns c =
    let p = c.args.place in
    let k = c.args.key.now in
    told_in_turn c.facts_are_ordered.ensures c.args.facts.now c.insert.new.self c.insert-2.new.self c.insert-3.new.self c.tell_if.new.facts c.tell_if-2.new.facts
    (fact.Denotes p k) (fact.HasRole p role.Final) (fact.OfKind k (kind_of c.args.denoted)) (fact_if c.args.denoted.declares (fact.Declares k p)) (fact_if c.args.denoted.linked (fact.FileScope k))
    (c.in_ok-insert.ensures.ok ∙ ap (λ x. insert c.args.facts.now (fact.Denotes p x)) c.in_ok-copy.ensures)
    c.in_ok-insert-2.ensures.ok
    (c.in_ok-insert-3.ensures.ok ∙ ap (λ x. insert c.insert-2.new.self (fact.OfKind x c.kind_of.result)) c.in_ok-copy-2.ensures ∙ ap (λ x. insert c.insert-2.new.self (fact.OfKind k x)) c.kind_of.ensures)
    (c.in_ok-tell_if.ensures ∙ ap (λ x. and_all c.insert-3.new.self (fact_if c.args.denoted.declares (fact.Declares x p))) c.in_ok-copy-3.ensures)
    (c.in_ok-tell_if-2.ensures ∙ ap (λ x. and_all c.tell_if.new.facts (fact_if c.args.denoted.linked (fact.FileScope x))) c.in_ok-copy-4.ensures)
