use Rattle.std.proofs.Common.{refl}
use Rattle.cr_names.proofs.Doing.{moved, moved_keeps}
use Rattle.cr_names.proofs.names.Names.enter_again.Goals as goal

pub invariant_of-self-2 : goal.invariant_of-self-2
invariant_of-self-2 c = moved_keeps _ c.self.invariant _ _ _ c.in_ok-enter_again.ensures.ok

pub returns-clause-ok : goal.returns-clause-ok
returns-clause-ok c = rw (← c.self.view_is) (moved _ c.self.invariant _ _ _ c.in_ok-enter_again.ensures.ok _ (λ t s. refl))
