use Rattle.cr_acting.proofs.Keeping.{kept_stays}
use Rattle.cr_acting.proofs.ends.kept_stays.Goals as goal

pub returns : goal.returns
returns c =
    kept_stays c.saved_stay.ensures c.targets_stay.ensures
