use Rattle.std.proofs.Common.{OnOk, sym, subst, ◌∙◌, if◌then◌else◌}
use Rattle.cr_typing.specs.declared.expressions.Op.TheVariants as op
use Rattle.cr_typing.specs.ExpressionTypes.{unary_type}
use Rattle.cr_binding.specs.Expressions.{on_one, on_two, second_type}
use Rattle.cr_operands.specs.Operands.{Does, changing}
use Rattle.cr_operands.proofs.operands.Operands.primary.Goals as goal

pub returns-then-is_offset-clause-ok : goal.returns-then-is_offset-clause-ok
returns-then-is_offset-clause-ok c =
    subst (λ b. OnOk c.unary.result (Does c.args.types.now c.args.self.now (changing (λ cs. if b then on_one (unary_type op.Other) cs else on_two second_type cs)) c.unary.new.types c.unary.new.self))
    (sym (sym c.is_offset.ensures ∙ c.if-is_offset.true)) c.unary.ensures.ok

pub returns-else-is_offset-clause-ok : goal.returns-else-is_offset-clause-ok
returns-else-is_offset-clause-ok c =
    subst (λ b. OnOk c.keep_second.result (Does c.args.types.now c.args.self.now (changing (λ cs. if b then on_one (unary_type op.Other) cs else on_two second_type cs)) c.args.types.now c.keep_second.new.self))
    (sym (sym c.is_offset.ensures ∙ c.if-is_offset.false)) c.keep_second.ensures.ok
