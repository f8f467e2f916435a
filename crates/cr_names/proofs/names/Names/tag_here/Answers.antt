use Rattle.cr_names.proofs.Doing.{tag_is}
use Rattle.cr_names.proofs.names.Names.tag_here.Goals as goal

pub returns : goal.returns
returns c = rw (← c.self.view_is) (tag_is _ c.self.invariant _ _ c.first_here.ensures)
