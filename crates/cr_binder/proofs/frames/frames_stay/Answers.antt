use Rattle.cr_binder.proofs.Framing.{frames_stay}
use Rattle.cr_binder.proofs.frames.frames_stay.Goals as goal

pub returns : goal.returns
returns c =
    frames_stay c.kept_stays.ensures
