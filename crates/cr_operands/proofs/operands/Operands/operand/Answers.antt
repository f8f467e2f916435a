use Rattle.std.proofs.Common.{sym, ap}
use Rattle.cr_binding.specs.Expressions.{type_or_mixed}
use Rattle.cr_operands.proofs.Changing.{values_last, last_given}
use Rattle.cr_operands.proofs.operands.Operands.operand.Goals as goal

pub returns-in-Some : goal.returns-in-Some
returns-in-Some c = λ t s h.
    (last_given t c.args.self.now c.in-Some.row h c.in-Some.ensures, sym (ap type_or_mixed (values_last t c.args.self.now c.in-Some.row c.in-Some.ensures)))
