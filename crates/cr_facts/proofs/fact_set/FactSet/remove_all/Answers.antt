use Rattle.std.proofs.Common.{sym, ap, ◌∙◌}
use Rattle.std.specs.Map.Iter.{deref}
use Rattle.std.proofs.lemmas.Map.Iter.{rest_all}
use Rattle.cr_facts.proofs.Members.{all_of, removed, removed_is}
use Rattle.cr_facts.proofs.Ties.{fact_total, fact_same}
use Rattle.cr_facts.proofs.fact_set.FactSet.remove_all.Goals as goal

pub returns : goal.returns
returns c =
    let done = rest_all deref c.loop-fact.fact-iterator c.next.new.self c.next.result c.in-None.is c.next.ensures.steps in
    sym (ap (removed c.loop-fact.self) done) ∙ c.loop-fact.invariant ∙ removed_is fact_total fact_same c.args.self.now c.args.facts.now c.into_iter-fact-iterator.result (ap all_of c.into_iter-fact-iterator.ensures.into_iter_gives ∙ c.iter-fact-items.ensures.facts)
