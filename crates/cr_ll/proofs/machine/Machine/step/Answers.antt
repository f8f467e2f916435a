use Rattle.std.proofs.Common.{◌∙◌, ap}
use Rattle.cr_ll.specs.declared.state.State.{State}
use Rattle.cr_ll.proofs.Asking.{ready}
use Rattle.cr_ll.proofs.machine.Machine.step.Goals as goal

pub returns-clause-ready : goal.returns-clause-ready
returns-clause-ready c = ready _ _ _ c.step.result (ap (λ (z : State). z.waits) c.self.view_is ∙ c.requires.idle) c.step.ensures.stuck c.step.ensures.steps
