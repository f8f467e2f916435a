use Rattle.std.proofs.Common.{◌≡◌, ◌++◌, map, length, sym, ap, subst, ◌∙◌, append-nil}
use Rattle.std.specs.Map.Iter.{deref}
use Rattle.std.specs.FinSet.{from_list}
use Rattle.std.specs.List.Sorted.{IsStrictlySortedBy}
use Rattle.std.proofs.lemmas.Map.Iter.{rest_all, rest_more}
use Rattle.std.proofs.lemmas.List.{length-map, length-set}
use Rattle.cr_facts.specs.FactOrder.{fact_cmp}
use Rattle.cr_small_facts.specs.Places.{ArePlaces}
use Rattle.cr_small_facts.specs.Filing.{offsets_among}
use Rattle.cr_small_facts.proofs.Listed.{are_places}
use Rattle.cr_small_facts.proofs.Lists.{AreFiled, filed_some}
use Rattle.cr_small_facts.proofs.places.places_by_file.Goals as goal

pub loop-fact-preserved-in-Continue-branch-2 : goal.loop-fact-preserved-in-Continue-branch-2
loop-fact-preserved-in-Continue-branch-2 c =
    let key = c.args.key.now in
    let all = c.into_iter-fact-iterator.result in
    let lists = map (λ v. v.items) c.loop-fact.places.items in
    let more = rest_more deref c.loop-fact.fact-iterator c.next.new.self c.next.result c.in-Some.fact c.in-Some.is c.next.ensures.steps in
    let longer = sym (length-map c.put.new.places.items (λ v. v.items)) ∙ ap length c.in_ok-put.ensures in (
      longer ∙ length-set lists c.in-Some-place_of.place.path.0 _ ∙ length-map c.loop-fact.places.items (λ v. v.items) ∙ c.loop-fact.invariant.0,
      filed_some key all c.next.new.self c.in-Some.fact.now lists (map (λ v. v.items) c.put.new.places.items) c.in-Some-place_of.place
          (subst (λ l. AreFiled key all l lists) more c.loop-fact.invariant.1) (sym c.place_of.ensures ∙ c.in-Some-place_of.is) c.in_ok-put.ensures,
    )

pub returns-clause-places : goal.returns-clause-places
returns-clause-places c n offsets at =
    let done = rest_all deref c.loop-fact.fact-iterator c.next.new.self c.next.result c.in-None.is c.next.ensures.steps in
    let all = c.into_iter-fact-iterator.result in
    let is : offsets ≡ offsets_among n c.args.key.now all =
    sym (append-nil offsets) ∙ sym (ap (λ l. offsets ++ offsets_among n c.args.key.now l) done) ∙ c.loop-fact.invariant.1 n offsets at in
    subst (ArePlaces c.args.facts.now n c.args.key.now) (sym is)
    (are_places c.facts_are_ordered.ensures n c.args.key.now c.args.facts.now all
    (ap (from_list {R = fact_cmp}) c.into_iter-fact-iterator.ensures.into_iter_gives ∙ c.iter-fact-items.ensures.facts)
    (subst (IsStrictlySortedBy fact_cmp) (sym c.into_iter-fact-iterator.ensures.into_iter_gives) c.iter-fact-items.ensures.ordered))
