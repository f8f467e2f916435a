use Rattle.std.proofs.Common.{refl, ap}
use Rattle.cr_ll.specs.Machine.{at}
use Rattle.cr_ll.proofs.Rows.{open_put, open_long}
use Rattle.cr_ll.proofs.state.open_by.Goals as goal

pub returns-then-room-body : goal.returns-then-room-body
returns-then-room-body c =
    (open_long _ _ _ _ _ _ _ _ c.alternatives.ensures c.requires.within c.requires.top c.room.ensures c.if-room-body.true, refl)

pub returns : goal.returns
returns c =
    (ap (λ z. at c.args.m.now.place z) (open_put _ _ _ _ _ _ c.args.m.now.stack c.alternatives.ensures c.requires.within c.put.ensures c.pop.ensures), (refl, refl))
