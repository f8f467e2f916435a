use Rattle.std.proofs.Common.{OnOk, sym, subst, ◌∙◌}
use Rattle.cr_operands.specs.Operands.{Does, changing}
use Rattle.cr_operands.proofs.Changing.{as_index, as_unary}
use Rattle.cr_operands.proofs.operands.Operands.postfix.Goals as goal

pub returns-then-is_index-clause-ok : goal.returns-then-is_index-clause-ok
returns-then-is_index-clause-ok c =
    subst (λ f. OnOk c.binary.result (Does c.args.types.now c.args.self.now (changing f) c.binary.new.types c.binary.new.self))
    (sym (as_index c.args.of (sym c.is_index.ensures ∙ c.if-is_index.true))) c.binary.ensures.ok

pub returns-else-is_index-clause-ok : goal.returns-else-is_index-clause-ok
returns-else-is_index-clause-ok c =
    subst (λ f. OnOk c.unary.result (Does c.args.types.now c.args.self.now (changing f) c.unary.new.types c.unary.new.self))
    (sym (as_unary c.args.of (sym c.is_index.ensures ∙ c.if-is_index.false))) c.unary.ensures.ok
