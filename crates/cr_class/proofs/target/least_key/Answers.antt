use Rattle.std.proofs.Common.{◌≡◌, [], sym, ap, ◌∙◌, None, Option, Bor, refl, Some}
use Rattle.std.specs.List.{filter_map}
use Rattle.std.specs.Option.{option_map, option_copied}
use Rattle.std.specs.Map.Iter.{deref}
use Rattle.std.specs.FinSet.{from_list}
use Rattle.std.proofs.lemmas.Map.Iter.{rest_all}
use Rattle.cr_facts.specs.FactOrder.{fact_cmp}
use Rattle.cr_class.specs.RenameClass.{key_cmp}
use Rattle.cr_class.specs.Declarations.{least, file_scope_key}
use Rattle.cr_class.proofs.Candidates.{no_key, is_least_key}
use Rattle.cr_class.proofs.target.least_key.Goals as goal

copied : {X : Type 0} (o : Option (Bor X)) → option_map (λ k. k.now) o ≡ option_copied o
copied None = refl
copied (Some k) = refl

pub returns-clause-none : goal.returns-clause-none
returns-clause-none c e =
    let done = rest_all deref c.loop-fact.fact-iterator c.next.new.self c.next.result c.in-None.is c.next.ensures.steps in
    no_key c.facts_are_ordered.ensures [] c.args.facts.now c.into_iter-fact-iterator.result
    (ap (from_list {R = fact_cmp}) c.into_iter-fact-iterator.ensures.into_iter_gives ∙ c.iter-fact-items.ensures.facts)
    (sym c.loop-fact.invariant ∙ ap (λ l. least key_cmp (option_map (λ k. k.now) c.loop-fact.best) (filter_map (file_scope_key c.args.facts.now) l)) done ∙ copied c.loop-fact.best ∙ e)

pub returns-clause-least : goal.returns-clause-least
returns-clause-least c k e =
    let done = rest_all deref c.loop-fact.fact-iterator c.next.new.self c.next.result c.in-None.is c.next.ensures.steps in
    is_least_key c.facts_are_ordered.ensures [] c.args.facts.now c.into_iter-fact-iterator.result
    (ap (from_list {R = fact_cmp}) c.into_iter-fact-iterator.ensures.into_iter_gives ∙ c.iter-fact-items.ensures.facts)
    k (sym c.loop-fact.invariant ∙ ap (λ l. least key_cmp (option_map (λ k. k.now) c.loop-fact.best) (filter_map (file_scope_key c.args.facts.now) l)) done ∙ copied c.loop-fact.best ∙ e)
