use Rattle.cr_sema.proofs.Coming.{begun}
use Rattle.cr_sema.proofs.walk.Walk.new.Goals as goal

pub returns : goal.returns
returns c =
    λ t. begun c.calls_are_seen.ensures.begins t _ c.new-2.ensures c.in_ok-binder.binder (c.in_ok-binder.ensures t)
