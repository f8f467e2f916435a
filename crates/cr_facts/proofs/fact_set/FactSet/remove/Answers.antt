use Rattle.std.proofs.Common.{ap, ◌∙◌}
use Rattle.std.specs.FinSet.{remove}
use Rattle.cr_facts.specs.FactOrder.{Facts}
use Rattle.cr_facts.proofs.Members.{seen_remove}
use Rattle.cr_facts.proofs.Ties.{fact_total, fact_same}
use Rattle.cr_facts.proofs.fact_set.FactSet.remove.Goals as goal

pub returns : goal.returns
returns c = seen_remove fact_total fact_same c.self.inside.facts c.remove.new.self c.args.fact.now c.remove.ensures.updates ∙ ap (λ (s : Facts). remove s c.args.fact.now) c.self.view_is
