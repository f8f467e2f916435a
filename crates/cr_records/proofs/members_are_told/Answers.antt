use Rattle.cr_records.proofs.Telling.{members_are_told}
use Rattle.cr_records.proofs.members_are_told.Goals as goal

pub returns : goal.returns
returns c = members_are_told
