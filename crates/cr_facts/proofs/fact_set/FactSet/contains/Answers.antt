use Rattle.std.proofs.Common.{ap, ◌∙◌}
use Rattle.std.specs.FinSet.{contains}
use Rattle.cr_facts.specs.FactOrder.{Facts}
use Rattle.cr_facts.proofs.Members.{contains_seen}
use Rattle.cr_facts.proofs.Ties.{fact_total, fact_same}
use Rattle.cr_facts.proofs.fact_set.FactSet.contains.Goals as goal

pub returns : goal.returns
returns c = c.contains.ensures ∙ contains_seen fact_total fact_same c.self.inside.facts c.args.fact.now ∙ ap (λ (s : Facts). contains s c.args.fact.now) c.self.view_is
