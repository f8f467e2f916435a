use Rattle.std.proofs.Common.{sym, ap, ◌∙◌}
use Rattle.cr_binding.specs.State.{start}
use Rattle.cr_binding.specs.Initialising.{Value}
use Rattle.cr_operands.specs.Operands.{with_operands, last_item}
use Rattle.cr_operands.proofs.operands.Operands.item.Goals as goal

pub returns-else-is_string-clause-kind : goal.returns-else-is_string-clause-kind
returns-else-is_string-clause-kind c = λ t h. (c.operand.ensures t start h).0

pub returns-else-is_string-clause-meant : goal.returns-else-is_string-clause-meant
returns-else-is_string-clause-meant c = λ t s h.
    ap Value (c.operand.ensures t s h).1 ∙ ap (λ b. last_item b (with_operands t c.args.self.now s)) (sym c.if-is_string.false)
