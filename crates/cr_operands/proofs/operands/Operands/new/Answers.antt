use Rattle.cr_operands.proofs.Changing.{keeps_both}
use Rattle.cr_operands.proofs.operands.Operands.new.Goals as goal

pub returns-clause-keeps : goal.returns-clause-keeps
returns-clause-keeps c =
    keeps_both _ _ _ c.make.ensures.keeps (keeps_both _ _ _ c.make-2.ensures.keeps (keeps_both _ _ _ c.make-3.ensures.keeps c.make-4.ensures.keeps))
