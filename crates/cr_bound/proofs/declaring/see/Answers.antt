use Rattle.cr_bound.proofs.Declares.{seen_moves}
use Rattle.cr_bound.proofs.declaring.see.Goals as goal

pub returns-clause-ok : goal.returns-clause-ok
returns-clause-ok c = seen_moves _ _ _ _ _ c.if-not-making.false c.in_ok-look_up.ensures.ok
