use Rattle.cr_acting.proofs.Parts.{begun}
use Rattle.cr_acting.proofs.binding.Binding.new.Goals as goal

pub returns-clause-none : goal.returns-clause-none
returns-clause-none c =
    begun _ _ c.in_ok-bound.bound c.in_ok-operands.operands c.stay.ensures c.in_ok-operands.ensures.keeps c.in_ok-operands.ensures.records c.in_ok-bound.ensures.typed c.in_ok-bound.ensures.none c.in_ok-operands.ensures.none

pub returns-clause-ready : goal.returns-clause-ready
returns-clause-ready c =
    λ source. record { spelled = c.in_ok-bound.ensures.spelled source; whole = record { typed = (c.stay.ensures _ _ c.in_ok-operands.ensures.keeps c.in_ok-operands.ensures.records c.in_ok-bound.ensures.typed).typed; held = c.in_ok-operands.ensures.held } }
