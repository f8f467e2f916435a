use Rattle.cr_phase4.proofs.Growing.{goes_on}
use Rattle.cr_phase4.proofs.preprocessing_goes_on.Goals as goal

pub returns : goal.returns
returns c = goes_on
