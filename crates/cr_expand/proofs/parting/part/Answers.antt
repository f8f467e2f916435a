use Rattle.std.proofs.Common.{◌≡◌, ◌<◌, arith, refl, sym, ap, subst, ◌∙◌, map, [], ◌∷◌, length, drop}
use Rattle.std.proofs.lemmas.List.{map-append}
use Rattle.cr_expand.specs.Groups.{AreGroups}
use Rattle.cr_expand.specs.Wanted.{is_marked_whole}
use Rattle.cr_expand.proofs.Spans.{groups_drop}
use Rattle.cr_expand.proofs.PartedLists.{kept_first, token_here, within_here, same_here, parted_ends, call_place}
use Rattle.cr_expand.proofs.Overs.{parted_past, past_depth}
use Rattle.cr_expand.proofs.parting.part.Goals as goal

pub loop-i-init : goal.loop-i-init
loop-i-init c =
    let m = call_place c.args.slots.now.items c.args.close c.requires.call in
    record {
      small = omega arith;
      place = m;
      parted = rw (c.new.ensures.items, c.new-2.ensures.items) (kept_first c.args.names.now c.args.commas (is_marked_whole c.args.needs.now) c.args.slots.now.items c.args.close);
    }

pub passed-span-requires-clause-slot : goal.passed-span-requires-clause-slot
passed-span-requires-clause-slot c = within_here c.args.names.now c.args.commas c.args.slots.now.items c.loop-i.slots.items c.args.close c.loop-i.i _ _ _ _ c.requires.call c.loop-i.invariant.place c.loop-i.invariant.parted.2

pub passed-span-requires-clause-groups : goal.passed-span-requires-clause-groups
passed-span-requires-clause-groups c =
    subst (λ s. AreGroups c.args.names.now s (drop c.loop-i.i c.args.groups.now.items)) (same_here c.args.names.now c.args.commas c.args.slots.now.items c.loop-i.slots.items c.args.close c.loop-i.i _ _ _ _ c.requires.call c.loop-i.invariant.parted.2)
    (groups_drop c.args.names.now c.loop-i.i c.args.slots.now.items c.args.groups.now.items c.requires.noted.1)

pub end_if-requires : goal.end_if-requires
end_if-requires c = within_here c.args.names.now c.args.commas c.args.slots.now.items c.loop-i.slots.items c.args.close c.loop-i.i _ _ _ _ c.requires.call c.loop-i.invariant.place c.loop-i.invariant.parted.2

pub token_at-h-requires : goal.token_at-h-requires
token_at-h-requires c = token_here c.args.names.now c.args.commas c.args.slots.now.items c.loop-i.slots.items c.args.close c.loop-i.i _ _ _ _ c.requires.call c.loop-i-test.true c.loop-i.invariant.parted.2

pub loop-i-preserved : goal.loop-i-preserved
loop-i-preserved c =
    let d = past_depth c.passed-span.result c.loop-i.i c.loop-i.parting.depth c.take.new.self.depth c.depth_past.result c.args.close _ c.loop-i-test.true c.loop-i.invariant.small c.in_ok-parts.ensures.small c.passed-span.ensures.within c.depth_past.ensures in
    record {
      small = d.0;
      place = d.1;
      parted = parted_past c.args.names.now c.args.commas (is_marked_whole c.args.needs.now) c.args.slots.now.items c.loop-i.slots.items c.end_if.new.slots.items c.args.close c.loop-i.i _ c.passed-span.result c.depth_past.result c.loop-i.parting c.take.new.self c.in_ok-parts.parts c.token_at-h.result
          c.loop-i-test.true c.token_at-h.ensures c.in_ok-parts.ensures.taken c.end_if.ensures c.passed-span.ensures.span (λ p. ((c.passed-span.ensures.within p).0, ap (is_marked_whole c.args.needs.now) (sym (c.len.ensures ∙ c.loop-i.parting.lists.ok.0)) ∙ sym c.is_whole-whole.ensures ∙ (c.passed-span.ensures.within p).1)) refl c.depth_past.ensures c.loop-i.invariant.parted;
    }

pub end_if-requires-2 : goal.end_if-requires-2
end_if-requires-2 c =
    let e : c.loop-i.i ≡ c.args.close = omega (arith, c.loop-i.invariant.place) in
    subst (λ n. n < length c.loop-i.slots.items) e (within_here c.args.names.now c.args.commas c.args.slots.now.items c.loop-i.slots.items c.args.close c.loop-i.i _ _ _ _ c.requires.call c.loop-i.invariant.place c.loop-i.invariant.parted.2)

pub returns : goal.returns
returns c =
    parted_ends c.args.names.now c.args.commas (is_marked_whole c.args.needs.now) c.args.slots.now.items c.loop-i.slots.items c.end_if-2.new.slots.items c.args.close c.loop-i.i c.loop-i.parting _ (omega (arith, c.loop-i.invariant.place)) c.end_if-2.ensures
    (ap (map (λ v. v.items)) c.in_ok-push.ensures.items ∙ map-append (λ v. v.items) c.loop-i.parting.lists.items (c.loop-i.parting.list ∷ []))
    c.loop-i.invariant.parted
