use Rattle.cr_nodes.proofs.Onward.{steps_are_a_trees, all_steps_are_made}
use Rattle.cr_nodes.proofs.laws.steps_are_a_trees.Goals as goal

pub returns-clause-fronts : goal.returns-clause-fronts
returns-clause-fronts c = steps_are_a_trees

pub returns-clause-whole : goal.returns-clause-whole
returns-clause-whole c = all_steps_are_made
