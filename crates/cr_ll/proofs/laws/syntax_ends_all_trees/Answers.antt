use Rattle.cr_ll.proofs.Called.{syntax_ends_all_trees}
use Rattle.cr_ll.proofs.laws.syntax_ends_all_trees.Goals as goal

pub returns : goal.returns
returns c = syntax_ends_all_trees
