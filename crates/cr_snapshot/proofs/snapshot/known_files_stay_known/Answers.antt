use Rattle.cr_snapshot.proofs.Growing.{stays, tells, numbers}
use Rattle.cr_snapshot.proofs.snapshot.known_files_stay_known.Goals as goal

pub returns-clause-stays : goal.returns-clause-stays
returns-clause-stays c = stays

pub returns-clause-tells : goal.returns-clause-tells
returns-clause-tells c = tells

pub returns-clause-numbers : goal.returns-clause-numbers
returns-clause-numbers c = numbers
