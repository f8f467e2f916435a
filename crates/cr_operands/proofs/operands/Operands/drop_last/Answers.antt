use Rattle.std.proofs.Common.{ap, ◌∙◌}
use Rattle.cr_operands.specs.Operands.{with_operands, with_values}
use Rattle.cr_operands.proofs.operands.Operands.drop_last.Goals as goal

pub returns-clause-ok : goal.returns-clause-ok
returns-clause-ok c = λ t s.
    c.restore.ensures.ok t s ∙ ap (λ v. with_values v (with_operands t c.args.self.now s)) (c.below-mark.ensures.values t)
