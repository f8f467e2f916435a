use Rattle.cr_ll.proofs.Called.{calls_are_a_trees}
use Rattle.cr_ll.proofs.laws.calls_are_a_trees.Goals as goal

pub returns : goal.returns
returns c = calls_are_a_trees
