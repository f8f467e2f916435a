use Rattle.std.proofs.Common.{refl}
use Rattle.cr_names.proofs.Doing.{moved, moved_keeps}
use Rattle.cr_names.proofs.names.Names.leave.Goals as goal

pub invariant_of-self : goal.invariant_of-self
invariant_of-self c = moved_keeps _ c.self.invariant _ _ _ c.leave.ensures

pub returns : goal.returns
returns c = rw (← c.self.view_is) (moved _ c.self.invariant _ _ _ c.leave.ensures _ (λ t s. refl))
