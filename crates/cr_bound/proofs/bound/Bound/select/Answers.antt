use Rattle.cr_bound.proofs.Lenses.{names_move, moves_typed}
use Rattle.cr_bound.proofs.bound.Bound.select.Goals as goal

pub returns-clause-ok : goal.returns-clause-ok
returns-clause-ok c = names_move _ _ _ c.in_ok-select.ensures.ok

pub returns-clause-typed : goal.returns-clause-typed
returns-clause-typed c = moves_typed _ _ _ c.in_ok-select.ensures.ok
