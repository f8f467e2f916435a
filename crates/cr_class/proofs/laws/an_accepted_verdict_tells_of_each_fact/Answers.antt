use Rattle.cr_class.proofs.Accepting.{accepted_means_nothing, class_tests}
use Rattle.cr_class.proofs.laws.an_accepted_verdict_tells_of_each_fact.Goals as goal

pub returns-clause-facts : goal.returns-clause-facts
returns-clause-facts c = accepted_means_nothing c.facts_are_ordered.ensures

pub returns-clause-keys : goal.returns-clause-keys
returns-clause-keys c = class_tests c.facts_are_ordered.ensures
