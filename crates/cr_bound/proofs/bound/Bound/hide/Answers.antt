use Rattle.std.proofs.Common.{refl}
use Rattle.cr_bound.proofs.Lenses.{names_move_as, moves_typed}
use Rattle.cr_bound.proofs.bound.Bound.hide.Goals as goal

pub returns-clause-ok : goal.returns-clause-ok
returns-clause-ok c = names_move_as _ _ _ _ (λ t s. refl) c.in_ok-hide.ensures.ok

pub returns-clause-typed : goal.returns-clause-typed
returns-clause-typed c = moves_typed _ _ _ c.in_ok-hide.ensures.ok
