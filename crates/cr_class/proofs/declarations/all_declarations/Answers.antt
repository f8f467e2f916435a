use Rattle.std.proofs.Common.{◌≡◌, ◌++◌, map, sym, ap, ◌∙◌, subst, append-nil}
use Rattle.std.specs.List.{filter_map}
use Rattle.std.specs.Map.Iter.{deref}
use Rattle.std.specs.FinSet.{from_list}
use Rattle.std.proofs.lemmas.Map.Iter.{rest_all}
use Rattle.cr_facts.specs.FactOrder.{fact_cmp}
use Rattle.cr_class.specs.Declarations.{declared_key, declared_place, AreDeclarations}
use Rattle.cr_class.proofs.Declared.{are_declarations}
use Rattle.cr_class.proofs.declarations.all_declarations.Goals as goal

pub returns : goal.returns
returns c =
    let done = rest_all deref c.loop-fact.fact-iterator c.next.new.self c.next.result c.in-None.is c.next.ensures.steps in
    let all = c.into_iter-fact-iterator.result in
    let names = map (λ k. k.now) c.loop-fact.keys.items in
    let keys : names ≡ filter_map declared_key all = sym (append-nil names) ∙ sym (ap (λ l. names ++ filter_map declared_key l) done) ∙ c.loop-fact.invariant.0 in
    let places : c.loop-fact.places.items ≡ filter_map declared_place all =
    sym (append-nil c.loop-fact.places.items) ∙ sym (ap (λ l. c.loop-fact.places.items ++ filter_map declared_place l) done) ∙ c.loop-fact.invariant.1 in
    subst (λ l. AreDeclarations c.args.facts.now l c.loop-fact.places.items) (sym keys)
    (subst (AreDeclarations c.args.facts.now (filter_map declared_key all)) (sym places)
    (are_declarations c.facts_are_ordered.ensures c.args.facts.now all (ap (from_list {R = fact_cmp}) c.into_iter-fact-iterator.ensures.into_iter_gives ∙ c.iter-fact-items.ensures.facts)))
