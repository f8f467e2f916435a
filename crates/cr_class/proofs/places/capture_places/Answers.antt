use Rattle.std.proofs.Common.{◌≡◌, ◌++◌, sym, ap, ◌∙◌, subst, append-nil}
use Rattle.std.specs.Prelude.{◌↔◌}
use Rattle.std.specs.List.{Contains, filter_map}
use Rattle.std.specs.BTreeSet as tree
use Rattle.std.specs.Map.Iter.{deref}
use Rattle.std.specs.FinSet.{from_list}
use Rattle.std.proofs.lemmas.Map.Iter.{rest_all}
use Rattle.cr_facts.specs.FactOrder.{fact_cmp}
use Rattle.cr_class.specs.RenameClass.{key_cmp, place_cmp}
use Rattle.cr_class.specs.Verdict.{capture_place, IsGiven}
use Rattle.cr_class.proofs.Given.{given_all}
use Rattle.cr_class.proofs.places.capture_places.Goals as goal

pub returns : goal.returns
returns c x =
    let done = rest_all deref c.loop-fact.fact-iterator c.next.new.self c.next.result c.in-None.is c.next.ensures.steps in
    let all = c.into_iter-fact-iterator.result in
    let f = (capture_place (tree.contains key_cmp c.args.members.now.keys) (tree.contains place_cmp c.args.members.now.places)) in
    let found : c.loop-fact.places.items ≡ filter_map f all =
    sym (append-nil c.loop-fact.places.items) ∙ sym (ap (λ l. c.loop-fact.places.items ++ filter_map f l) done) ∙ c.loop-fact.invariant in
    subst (λ l. Contains l x ↔ IsGiven f c.args.facts.now x) (sym found)
    (given_all c.facts_are_ordered.ensures c.args.facts.now all (ap (from_list {R = fact_cmp}) c.into_iter-fact-iterator.ensures.into_iter_gives ∙ c.iter-fact-items.ensures.facts) f x)
