use Rattle.std.proofs.Common.{length}
use Rattle.cr_survey.proofs.batch.+know_all.Given as goal

abbrev pub decreases-know_all : goal.decreases-know_all
decreases-know_all g l = length l.runs.now
