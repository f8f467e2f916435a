use Rattle.std.proofs.Common.{◌≡◌, true, ◌||◌, sym, ap, ◌∙◌}
use Rattle.std.specs.List.{list_any}
use Rattle.std.specs.BTreeSet as tree
use Rattle.std.specs.Map.Iter.{deref}
use Rattle.std.specs.FinSet.{from_list}
use Rattle.std.proofs.lemmas.Map.Iter.{rest_all, rest_more}
use Rattle.cr_facts.specs.FactOrder.{fact_cmp}
use Rattle.cr_class.specs.RenameClass.{key_cmp}
use Rattle.cr_class.specs.Judging.{scope_of}
use Rattle.cr_class.proofs.Judged.{scope_found, scope_any}
use Rattle.cr_class.proofs.steps.has_file_scope.Goals as goal

pub returns-then-contains-clause-yes : goal.returns-then-contains-clause-yes
returns-then-contains-clause-yes c e =
    let all = c.into_iter-fact-iterator.result in
    let known = tree.contains key_cmp c.args.members.now.keys in
    let more = rest_more deref c.loop-fact.fact-iterator c.next.new.self c.next.result c.in-Some.fact c.in-Some.is c.next.ensures.steps in
    let here : scope_of known c.in-Some.fact.now ≡ true = ap (scope_of known) c.in-FileScope.is ∙ sym c.contains.ensures ∙ c.if-contains.true in
    let some : list_any (scope_of known) all ≡ true = sym c.loop-fact.invariant ∙ ap (list_any (scope_of known)) more ∙ ap (λ b. b || list_any (scope_of known) c.next.new.self) here in
    let k = scope_found c.facts_are_ordered.ensures c.args.question.now.facts.now all (ap (from_list {R = fact_cmp}) c.into_iter-fact-iterator.ensures.into_iter_gives ∙ c.iter-fact-items.ensures.facts) known some in
    (k.0, k.1, sym (c.requires.0 k.0) ∙ k.2)

pub returns-clause-no : goal.returns-clause-no
returns-clause-no c h =
    let all = c.into_iter-fact-iterator.result in
    let known = tree.contains key_cmp c.args.members.now.keys in
    let done = rest_all deref c.loop-fact.fact-iterator c.next.new.self c.next.result c.in-None.is c.next.ensures.steps in
    sym (ap (list_any (scope_of known)) done) ∙ c.loop-fact.invariant
    ∙ scope_any c.facts_are_ordered.ensures c.args.question.now.facts.now all (ap (from_list {R = fact_cmp}) c.into_iter-fact-iterator.ensures.into_iter_gives ∙ c.iter-fact-items.ensures.facts) known h.0 h.1 (c.requires.0 h.0 ∙ h.2)
