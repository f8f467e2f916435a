use Rattle.cr_names.proofs.Doing.{meaning_is}
use Rattle.cr_names.proofs.names.Names.meaning.Goals as goal

pub returns : goal.returns
returns c = rw (← c.self.view_is) (meaning_is _ c.self.invariant _ _ _ c.lookup.ensures)
