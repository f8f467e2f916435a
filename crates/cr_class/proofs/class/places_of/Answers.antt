use Rattle.std.proofs.Common.{◌≡◌, ◌++◌, sym, ap, ◌∙◌, append-nil}
use Rattle.std.specs.List.{filter_map, list_any}
use Rattle.std.specs.Ordering.{eq_by_cmp}
use Rattle.std.specs.BTreeSet as tree
use Rattle.std.specs.Map.Iter.{deref}
use Rattle.std.specs.FinSet.{from_list}
use Rattle.std.proofs.lemmas.Map.Iter.{rest_all}
use Rattle.cr_facts.specs.FactOrder.{fact_cmp}
use Rattle.cr_class.specs.RenameClass.{key_cmp, place_cmp}
use Rattle.cr_class.specs.Declarations.{known_place}
use Rattle.cr_class.proofs.Sharings.{place_ties}
use Rattle.cr_class.proofs.Classes.{any_item, item_any, place_total, places_are}
use Rattle.cr_class.proofs.class.places_of.Goals as goal

pub returns-clause-places : goal.returns-clause-places
returns-clause-places c p =
    let law = c.facts_are_ordered.ensures in
    let done = rest_all deref c.loop-fact.fact-iterator c.next.new.self c.next.result c.in-None.is c.next.ensures.steps in
    let all = c.into_iter-fact-iterator.result in
    let f = known_place (tree.contains key_cmp c.args.keys.now) in
    let found : c.loop-fact.places.items ≡ filter_map f all = sym (append-nil c.loop-fact.places.items) ∙ sym (ap (λ l. c.loop-fact.places.items ++ filter_map f l) done) ∙ c.loop-fact.invariant in
    let same : list_any (eq_by_cmp place_cmp p) c.in_ok-rising.rising.items ≡ list_any (eq_by_cmp place_cmp p) (filter_map f all) =
    ap (list_any (eq_by_cmp place_cmp p)) c.in_ok-rising.ensures.items ∙ c.in_ok-set.ensures p ∙ ap (list_any (eq_by_cmp place_cmp p)) found in
    let are = places_are law c.args.facts.now all (ap (from_list {R = fact_cmp}) c.into_iter-fact-iterator.ensures.into_iter_gives ∙ c.iter-fact-items.ensures.facts) (tree.contains key_cmp c.args.keys.now) p in (
      λ has. are.0 (any_item place_cmp (place_total law) (place_ties law) p (filter_map f all) (sym same ∙ item_any place_cmp (place_total law) (place_ties law) p c.in_ok-rising.rising.items has)),
      λ h. any_item place_cmp (place_total law) (place_ties law) p c.in_ok-rising.rising.items (same ∙ item_any place_cmp (place_total law) (place_ties law) p (filter_map f all) (are.1 h)),
    )
