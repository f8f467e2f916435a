use Rattle.cr_ll.proofs.Called.{trees_go_over}
use Rattle.cr_ll.proofs.laws.trees_go_over.Goals as goal

pub returns : goal.returns
returns c = trees_go_over
