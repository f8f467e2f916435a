use Rattle.cr_nodes.proofs.Called.{calls_are_runs, runs_join}
use Rattle.cr_nodes.proofs.laws.calls_are_a_run.Goals as goal

pub returns-clause-calls : goal.returns-clause-calls
returns-clause-calls c = calls_are_runs

pub returns-clause-join : goal.returns-clause-join
returns-clause-join c = runs_join
