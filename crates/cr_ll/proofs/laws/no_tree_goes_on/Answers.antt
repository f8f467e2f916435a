use Rattle.cr_ll.proofs.Called.{no_tree_goes_on}
use Rattle.cr_ll.proofs.laws.no_tree_goes_on.Goals as goal

pub returns : goal.returns
returns c = no_tree_goes_on
