use Rattle.cr_types.proofs.Tables.{puts}
use Rattle.cr_types.proofs.number_in.Goals as goal

pub returns-clause-ok : goal.returns-clause-ok
returns-clause-ok c = puts c.put.ensures.equality _ _ _ (c.in_ok-n.ensures.ok)
