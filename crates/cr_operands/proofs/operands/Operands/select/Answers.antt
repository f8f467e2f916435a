use Rattle.cr_binding.specs.State.{start}
use Rattle.cr_operands.proofs.Changing.{operand_selects, operand_refuses}
use Rattle.cr_operands.proofs.operands.Operands.select.Goals as goal

pub select-requires-clause-of_given : goal.select-requires-clause-of_given
select-requires-clause-of_given c = (c.operand.ensures c.args.types.now start c.requires.held).0

pub returns-in_ok-put-in-Ok-clause-ok : goal.returns-in_ok-put-in-Ok-clause-ok
returns-in_ok-put-in-Ok-clause-ok c =
    operand_selects c.args.types.now c.args.records.now c.args.self.now c.requires.held c.args.arrow c.args.name c.operand.result
    (λ s. (c.operand.ensures c.args.types.now s c.requires.held).1)
    c.put.new.self c.in-Ok.selected c.below-rest.result c.in-Ok.ensures.found c.in_ok-put-in-Ok.ensures.ok (c.below-rest.ensures.values c.args.types.now)

pub returns-in-Err-clause-ill : goal.returns-in-Err-clause-ill
returns-in-Err-clause-ill c =
    operand_refuses c.args.types.now c.args.records.now c.args.self.now c.requires.held c.args.arrow c.args.name c.operand.result
    (λ s. (c.operand.ensures c.args.types.now s c.requires.held).1)
    c.in-Err.cause c.in-Err.ensures.found
