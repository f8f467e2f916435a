use Rattle.std.proofs.Common.{ap, ◌∙◌}
use Rattle.cr_binding.specs.State.{start}
use Rattle.cr_operands.specs.Operands.{with_operands, aimed_at}
use Rattle.cr_operands.proofs.operands.Operands.aim_at_operand.Goals as goal

pub returns-clause-ok : goal.returns-clause-ok
returns-clause-ok c = λ t s h.
    c.aim.ensures.ok t s ∙ ap (λ z. aimed_at z (with_operands t c.args.self.now s)) (c.operand-ty.ensures t s h).1

pub returns-clause-grows : goal.returns-clause-grows
returns-clause-grows c = λ t h. c.aim.ensures.grows t h (c.operand-ty.ensures t start h).0
