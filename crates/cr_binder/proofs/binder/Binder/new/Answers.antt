use Rattle.cr_binder.proofs.Going.{begun}
use Rattle.cr_binder.proofs.binder.Binder.new.Goals as goal

pub returns : goal.returns
returns c =
    λ t. begun t _ _ c.in_ok-binding.binding c.new-2.ensures c.new-3.ensures c.in_ok-binding.ensures.none (c.in_ok-binding.ensures.ready t)
