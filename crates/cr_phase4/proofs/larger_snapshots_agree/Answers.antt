use Rattle.cr_phase4.proofs.Snapshots.{snapshots_agree}
use Rattle.cr_phase4.proofs.larger_snapshots_agree.Goals as goal

pub returns : goal.returns
returns c = snapshots_agree c.known_files_stay_known.ensures.stays
