use Rattle.cr_capture.specs.Conflicts.{IsConflict}
use Rattle.cr_capture.proofs.Found.{from_none}
use Rattle.cr_capture.proofs.conflicts.Goals as goal

pub returns : goal.returns
returns c =
    from_none _ _ (λ x. IsConflict c.args.scopes.now c.args.old c.args.new x c.args.what) c.new-found.ensures.items c.in_ok-add_conflicts.ensures
