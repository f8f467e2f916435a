use Rattle.cr_expand.proofs.RunsOn.{runs_on}
use Rattle.cr_expand.proofs.expander.machines_run_on_as_names_grow.Goals as goal

pub returns : goal.returns
returns c = runs_on
