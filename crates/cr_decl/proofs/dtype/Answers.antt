use Rattle.cr_decl.proofs.Parts.{declarator_is}
use Rattle.cr_decl.proofs.dtype.Goals as goal

pub returns-clause-declarator : goal.returns-clause-declarator
returns-clause-declarator c = declarator_is _ _ _ c.in_ok-n.ensures.meant
