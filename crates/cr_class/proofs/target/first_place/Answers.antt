use Rattle.std.proofs.Common.{rules, refl, sym, ap, ◌∙◌}
use Rattle.std.specs.List.{filter_map}
use Rattle.std.specs.Map.Iter.{deref}
use Rattle.std.specs.FinSet.{from_list}
use Rattle.std.proofs.lemmas.Map.Iter.{rest_all, rest_more}
use Rattle.cr_facts.specs.FactOrder.{fact_cmp}
use Rattle.cr_class.specs.ShownOrder.{shown_cmp}
use Rattle.cr_class.specs.Declarations.{least, file_scope_place}
use Rattle.cr_class.proofs.Candidates.{no_first_place, is_first_place}
use Rattle.cr_class.proofs.target.first_place.Goals as goal

pub loop-fact-init : goal.loop-fact-init
loop-fact-init c = refl

pub loop-fact-preserved-then-branch : goal.loop-fact-preserved-then-branch
loop-fact-preserved-then-branch c =
    let more = rest_more deref c.loop-fact.fact-iterator c.next.new.self c.next.result c.in-Some.fact c.in-Some.is c.next.ensures.steps in
    search rules

pub loop-fact-preserved-else-branch : goal.loop-fact-preserved-else-branch
loop-fact-preserved-else-branch c =
    let more = rest_more deref c.loop-fact.fact-iterator c.next.new.self c.next.result c.in-Some.fact c.in-Some.is c.next.ensures.steps in
    search rules

pub loop-fact-preserved : goal.loop-fact-preserved
loop-fact-preserved c =
    let more = rest_more deref c.loop-fact.fact-iterator c.next.new.self c.next.result c.in-Some.fact c.in-Some.is c.next.ensures.steps in
    search rules

pub returns-clause-none : goal.returns-clause-none
returns-clause-none c e =
    let done = rest_all deref c.loop-fact.fact-iterator c.next.new.self c.next.result c.in-None.is c.next.ensures.steps in
    no_first_place c.facts_are_ordered.ensures c.args.snapshot.now c.args.facts.now c.into_iter-fact-iterator.result
    (ap (from_list {R = fact_cmp}) c.into_iter-fact-iterator.ensures.into_iter_gives ∙ c.iter-fact-items.ensures.facts)
    (sym c.loop-fact.invariant ∙ ap (λ l. least (shown_cmp c.args.snapshot.now) c.loop-fact.best (filter_map (file_scope_place c.args.facts.now) l)) done ∙ e)

pub returns-clause-first : goal.returns-clause-first
returns-clause-first c p e =
    let done = rest_all deref c.loop-fact.fact-iterator c.next.new.self c.next.result c.in-None.is c.next.ensures.steps in
    is_first_place c.facts_are_ordered.ensures c.args.snapshot.now c.args.facts.now c.into_iter-fact-iterator.result
    (ap (from_list {R = fact_cmp}) c.into_iter-fact-iterator.ensures.into_iter_gives ∙ c.iter-fact-items.ensures.facts)
    p (sym c.loop-fact.invariant ∙ ap (λ l. least (shown_cmp c.args.snapshot.now) c.loop-fact.best (filter_map (file_scope_place c.args.facts.now) l)) done ∙ e)
