use Rattle.std.proofs.Common.{refl}
use Rattle.cr_sema.proofs.sema.Sema.new.Goals as goal

pub returns : goal.returns
returns c =
    λ t. (c.in_ok-walk.ensures t, refl)
