use Rattle.cr_ll.proofs.Called.{events_are_a_trees}
use Rattle.cr_ll.proofs.laws.events_are_a_trees.Goals as goal

pub returns : goal.returns
returns c = events_are_a_trees
