use Rattle.std.proofs.Common.{length}
use Rattle.cr_survey.proofs.batch.+tell.Given as goal

abbrev pub decreases-tell : goal.decreases-tell
decreases-tell l = length l.runs.now
