use Rattle.cr_ll.proofs.One.{trees_are_one}
use Rattle.cr_ll.proofs.laws.trees_are_one.Goals as goal

pub returns : goal.returns
returns c = trees_are_one
