use Rattle.cr_nodes.proofs.Standing.{runs_derive, runs_begin, children_are_told}
use Rattle.cr_nodes.proofs.laws.runs_are_of_trees.Goals as goal

pub returns-clause-derive : goal.returns-clause-derive
returns-clause-derive c = runs_derive c.steps_bind.ensures.events

pub returns-clause-begin : goal.returns-clause-begin
returns-clause-begin c = runs_begin

pub returns-clause-children : goal.returns-clause-children
returns-clause-children c = children_are_told
