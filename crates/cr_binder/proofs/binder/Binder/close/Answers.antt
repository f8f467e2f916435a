use Rattle.cr_binder.proofs.Going.{closed}
use Rattle.cr_binder.proofs.binder.Binder.close.Goals as goal

pub returns : goal.returns
returns c =
    closed c.args.self.now c.in-Some.kept _ c.in-Some.ensures _ c.in_ok-close.ensures.ok _ _ _ c.node.ensures c.node-node.ensures c.is_childless-childless.ensures _ c.in_ok-end.ensures c.frames_stay.ensures
