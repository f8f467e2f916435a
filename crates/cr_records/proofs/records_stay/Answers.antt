use Rattle.cr_records.proofs.Growing.{records_stay}
use Rattle.cr_records.proofs.records_stay.Goals as goal

pub returns : goal.returns
returns c = records_stay
