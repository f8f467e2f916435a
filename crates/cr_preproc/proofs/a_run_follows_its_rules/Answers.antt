use Rattle.cr_preproc.proofs.Deep.{follows_the_rules}
use Rattle.cr_preproc.proofs.a_run_follows_its_rules.Goals as goal

pub returns : goal.returns
returns c = follows_the_rules
