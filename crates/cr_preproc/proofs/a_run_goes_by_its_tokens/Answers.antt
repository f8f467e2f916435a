use Rattle.cr_preproc.proofs.RunsAhead.{run_is}
use Rattle.cr_preproc.proofs.a_run_goes_by_its_tokens.Goals as goal

pub returns : goal.returns
returns c = run_is
