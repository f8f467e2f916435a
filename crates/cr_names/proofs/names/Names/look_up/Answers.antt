use Rattle.cr_names.proofs.Doing.{looked_up_at}
use Rattle.cr_names.proofs.names.Names.look_up.Goals as goal

pub returns-clause-ok : goal.returns-clause-ok
returns-clause-ok c =
    looked_up_at _ _ c.self.view_is c.self.invariant _ _ _ _ c.place-place.ensures.path c.len-before.ensures c.args.space c.args.denoted c.in_ok-push.ensures.ok
