use Rattle.std.proofs.Common.{◌≡◌, ◌++◌, rules, sym, ap, ◌∙◌, subst, append-nil, arith}
use Rattle.std.specs.Prelude.{◌↔◌}
use Rattle.std.specs.List.{filter_map, Contains}
use Rattle.std.specs.Map.Iter.{deref}
use Rattle.std.specs.FinSet.{from_list}
use Rattle.std.specs.declared.cmp.Ordering.TheVariants.{Equal}
use Rattle.std.proofs.lemmas.Map.Iter.{rest_all, rest_more}
use Rattle.std.proofs.lemmas.Grind.{common_steps}
use Rattle.cr_base.specs.declared.token.Place.{Place}
use Rattle.cr_facts.specs.FactOrder.{fact_cmp}
use Rattle.cr_class.specs.RenameClass.{DeclaresFileScope}
use Rattle.cr_class.specs.ShownOrder.{shown_cmp}
use Rattle.cr_class.specs.Declarations.{key_shown_at}
use Rattle.cr_class.proofs.Candidates.{shown_all}
use Rattle.cr_class.proofs.target.keys_at.Goals as goal

pub loop-fact-preserved-in_ok-push : goal.loop-fact-preserved-in_ok-push
loop-fact-preserved-in_ok-push c =
    let more = rest_more deref c.loop-fact.fact-iterator c.next.new.self c.next.result c.in-Some.fact c.in-Some.is c.next.ensures.steps in
    grind (arith, common_steps)

pub loop-fact-preserved-else-branch : goal.loop-fact-preserved-else-branch
loop-fact-preserved-else-branch c =
    let more = rest_more deref c.loop-fact.fact-iterator c.next.new.self c.next.result c.in-Some.fact c.in-Some.is c.next.ensures.steps in
    search rules

pub loop-fact-preserved : goal.loop-fact-preserved
loop-fact-preserved c =
    let more = rest_more deref c.loop-fact.fact-iterator c.next.new.self c.next.result c.in-Some.fact c.in-Some.is c.next.ensures.steps in
    search rules

pub returns : goal.returns
returns c k =
    let done = rest_all deref c.loop-fact.fact-iterator c.next.new.self c.next.result c.in-None.is c.next.ensures.steps in
    let all = c.into_iter-fact-iterator.result in
    let f = key_shown_at c.args.snapshot.now c.args.facts.now c.args.first in
    let found : c.loop-fact.keys.items ≡ filter_map f all =
    sym (append-nil c.loop-fact.keys.items) ∙ sym (ap (λ l. c.loop-fact.keys.items ++ filter_map f l) done) ∙ c.loop-fact.invariant in
    subst (λ keys. Contains keys k ↔ ((p : Place) × DeclaresFileScope c.args.facts.now k p × (shown_cmp c.args.snapshot.now p c.args.first ≡ Equal))) (sym found)
    (shown_all c.facts_are_ordered.ensures c.args.snapshot.now c.args.facts.now all (ap (from_list {R = fact_cmp}) c.into_iter-fact-iterator.ensures.into_iter_gives ∙ c.iter-fact-items.ensures.facts) c.args.first k)
