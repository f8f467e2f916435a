use Rattle.cr_facts.proofs.Ties.{fact_total, fact_same}
use Rattle.cr_facts.proofs.facts_are_ordered.Goals as goal

pub returns : goal.returns
returns c = record { total = fact_total; ties = fact_same }
