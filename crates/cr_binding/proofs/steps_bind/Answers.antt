use Rattle.cr_binding.proofs.Stepping.{steps_bind, steps_are_events}
use Rattle.cr_binding.proofs.steps_bind.Goals as goal

pub returns-clause-binds : goal.returns-clause-binds
returns-clause-binds c = steps_bind

pub returns-clause-events : goal.returns-clause-events
returns-clause-events c = steps_are_events
