use Rattle.std.proofs.Common.{not, ap, ◌∙◌}
use Rattle.std.specs.FinSet.{contains, insert}
use Rattle.cr_facts.specs.FactOrder.{Facts}
use Rattle.cr_facts.proofs.Members.{contains_seen, seen_insert}
use Rattle.cr_facts.proofs.Ties.{fact_total, fact_same}
use Rattle.cr_facts.proofs.fact_set.FactSet.insert.Goals as goal

pub returns-clause-is_new : goal.returns-clause-is_new
returns-clause-is_new c = c.in_ok-is_new.ensures.added ∙ ap not (contains_seen fact_total fact_same c.self.inside.facts c.args.fact ∙ ap (λ (s : Facts). contains s c.args.fact) c.self.view_is)

pub returns-clause-ok : goal.returns-clause-ok
returns-clause-ok c = seen_insert fact_total fact_same c.self.inside.facts c.insert.new.self c.args.fact c.in_ok-is_new.ensures.updates ∙ ap (λ (s : Facts). insert s c.args.fact) c.self.view_is
