use Rattle.std.proofs.Common.{◌≡◌, ◌++◌, sym, ap, ◌∙◌, subst, append-nil, [], true}
use Rattle.std.specs.Prelude.{◌↔◌}
use Rattle.std.specs.List.{filter_map, Contains}
use Rattle.std.specs.Map.Iter.{deref}
use Rattle.std.specs.FinSet.{from_list}
use Rattle.std.proofs.lemmas.Map.Iter.{rest_all}
use Rattle.cr_facts.specs.FactOrder.{fact_cmp}
use Rattle.cr_facts.specs.declared.fact.Fact.TheVariants as fact
use Rattle.cr_class.specs.RenameClass.{Has, is_renamable}
use Rattle.cr_class.specs.Declarations.{denoted_key}
use Rattle.cr_class.proofs.Candidates.{denoted_all}
use Rattle.cr_class.proofs.target.denoted_keys.Goals as goal

pub returns : goal.returns
returns c k =
    let done = rest_all deref c.loop-fact.fact-iterator c.next.new.self c.next.result c.in-None.is c.next.ensures.steps in
    let all = c.into_iter-fact-iterator.result in
    let found : c.loop-fact.keys.items ≡ filter_map (denoted_key c.args.facts.now c.args.place) all =
    sym (append-nil c.loop-fact.keys.items) ∙ sym (ap (λ l. c.loop-fact.keys.items ++ filter_map (denoted_key c.args.facts.now c.args.place) l) done) ∙ c.loop-fact.invariant in
    subst (λ keys. Contains keys k ↔ (Has c.args.facts.now (fact.Denotes c.args.place k) × (is_renamable c.args.facts.now k ≡ true))) (sym found)
    (denoted_all c.facts_are_ordered.ensures [] c.args.facts.now all (ap (from_list {R = fact_cmp}) c.into_iter-fact-iterator.ensures.into_iter_gives ∙ c.iter-fact-items.ensures.facts) c.args.place k)
