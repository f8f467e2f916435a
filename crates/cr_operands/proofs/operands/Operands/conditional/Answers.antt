use Rattle.std.proofs.Common.{ap, ◌∙◌}
use Rattle.cr_typing.specs.declared.expressions.Op.TheVariants as op
use Rattle.cr_typing.specs.ExpressionTypes.{binary_type}
use Rattle.cr_binding.specs.Expressions.{on_two, second_type}
use Rattle.cr_operands.specs.Operands.{changing}
use Rattle.cr_operands.proofs.Changing.{restored}
use Rattle.cr_operands.proofs.operands.Operands.conditional.Goals as goal

pub returns-in-Ok-clause-ok : goal.returns-in-Ok-clause-ok
returns-in-Ok-clause-ok c = λ s. c.in-Ok.ensures.ok s ∙ ap (changing (on_two second_type)) (c.in_ok-binary.ensures.ok s)

pub returns-in-Err-clause-err : goal.returns-in-Err-clause-err
returns-in-Err-clause-err c =
    restored c.args.types.now c.binary.new.types c.args.self.now c.binary.new.self c.keep_second.new.self c.restore.new.self c.mark-mark.result (on_two (binary_type op.Choice))
    (c.restore.ensures.ok c.binary.new.types) c.in-Err.ensures.err c.in_ok-binary.ensures.ok
    (c.binary.ensures.grows.marks c.mark-mark.result c.mark-mark.ensures.mark).1 (c.mark-mark.ensures.values c.args.types.now)
