use Rattle.std.proofs.Common.{OnOk, sym, subst}
use Rattle.cr_typing.specs.ExpressionTypes.{binary_type, unary_type}
use Rattle.cr_binding.specs.Expressions.{on_one, on_two, postfix}
use Rattle.cr_operands.specs.Operands.{Does, changing, operated_as}
use Rattle.cr_operands.proofs.operands.Operands.operate_as.Goals as goal

pub returns-in-Comma-clause-ok : goal.returns-in-Comma-clause-ok
returns-in-Comma-clause-ok c =
    subst (λ m. OnOk c.binary.result (Does c.args.types.now c.args.self.now (changing (operated_as m c.args.text.now)) c.binary.new.types c.binary.new.self))
    (sym c.in-Comma.is)
    c.binary.ensures.ok

pub returns-in-Assignment-clause-ok : goal.returns-in-Assignment-clause-ok
returns-in-Assignment-clause-ok c =
    subst (λ m. OnOk c.binary-in-Assignment.result (Does c.args.types.now c.args.self.now (changing (operated_as m c.args.text.now)) c.binary-in-Assignment.new.types c.binary-in-Assignment.new.self))
    (sym c.in-Assignment.is)
    c.binary-in-Assignment.ensures.ok

pub returns-in-Conditional-clause-ok : goal.returns-in-Conditional-clause-ok
returns-in-Conditional-clause-ok c =
    subst (λ m. OnOk c.conditional.result (Does c.args.types.now c.args.self.now (changing (operated_as m c.args.text.now)) c.conditional.new.types c.conditional.new.self))
    (sym c.in-Conditional.is)
    c.conditional.ensures.ok

pub returns-in-Cast-clause-ok : goal.returns-in-Cast-clause-ok
returns-in-Cast-clause-ok c =
    subst (λ m. Does c.args.types.now c.args.self.now (changing (operated_as m c.args.text.now)) c.args.types.now c.keep_first.new.self)
    (sym c.in-Cast.is)
    c.keep_first.ensures.ok

pub returns-in-Prefix-clause-ok : goal.returns-in-Prefix-clause-ok
returns-in-Prefix-clause-ok c =
    subst (λ m. OnOk c.unary.result (Does c.args.types.now c.args.self.now (changing (operated_as m c.args.text.now)) c.unary.new.types c.unary.new.self))
    (sym c.in-Prefix.is)
    (subst (λ f. OnOk c.unary.result (Does c.args.types.now c.args.self.now (changing (on_one (unary_type f))) c.unary.new.types c.unary.new.self)) c.unary_operator.ensures.op c.unary.ensures.ok)

pub returns-in-Postfix-clause-ok : goal.returns-in-Postfix-clause-ok
returns-in-Postfix-clause-ok c =
    subst (λ m. OnOk c.postfix.result (Does c.args.types.now c.args.self.now (changing (operated_as m c.args.text.now)) c.postfix.new.types c.postfix.new.self))
    (sym c.in-Postfix.is)
    (subst (λ f. OnOk c.postfix.result (Does c.args.types.now c.args.self.now (changing (postfix f)) c.postfix.new.types c.postfix.new.self)) c.postfix_operator.ensures.op c.postfix.ensures.ok)

pub returns-in-Primary-clause-ok : goal.returns-in-Primary-clause-ok
returns-in-Primary-clause-ok c =
    subst (λ m. OnOk c.primary.result (Does c.args.types.now c.args.self.now (changing (operated_as m c.args.text.now)) c.primary.new.types c.primary.new.self))
    (sym c.in-Primary.is)
    c.primary.ensures.ok

pub returns-in-Infix-clause-ok : goal.returns-in-Infix-clause-ok
returns-in-Infix-clause-ok c =
    subst (λ m. OnOk c.binary-in-Infix.result (Does c.args.types.now c.args.self.now (changing (operated_as m c.args.text.now)) c.binary-in-Infix.new.types c.binary-in-Infix.new.self))
    (sym c.in-Infix.is)
    (subst (λ f. OnOk c.binary-in-Infix.result (Does c.args.types.now c.args.self.now (changing (on_two (binary_type f))) c.binary-in-Infix.new.types c.binary-in-Infix.new.self)) c.binary_operator.ensures.op c.binary-in-Infix.ensures.ok)
