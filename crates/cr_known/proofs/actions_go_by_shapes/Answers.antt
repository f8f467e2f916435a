use Rattle.cr_ll.specs.Derivation.{none}
use Rattle.cr_known.proofs.Acting.{acts_by_shapes}
use Rattle.cr_known.proofs.actions_go_by_shapes.Goals as goal

pub returns : goal.returns
returns c = acts_by_shapes none
