use Rattle.cr_ll_law.proofs.EventsLeft.{run_leaves, run_place}
use Rattle.cr_ll_law.proofs.events_fall.Goals as goal

pub returns-clause-fall : goal.returns-clause-fall
returns-clause-fall c = run_leaves

pub returns-clause-places : goal.returns-clause-places
returns-clause-places c = run_place
