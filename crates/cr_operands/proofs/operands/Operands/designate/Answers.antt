use Rattle.cr_operands.proofs.Changing.{finds_over, refuses_over}
use Rattle.cr_operands.proofs.operands.Operands.designate.Goals as goal

pub returns-clause-ok : goal.returns-clause-ok
returns-clause-ok c = finds_over c.args.types.now c.args.records.now c.args.self.now c.designate.new.self c.args.name c.designate.result c.designate.ensures.ok

pub returns-clause-ill : goal.returns-clause-ill
returns-clause-ill c = refuses_over c.args.types.now c.args.records.now c.args.self.now c.args.name c.designate.result c.designate.ensures.ill
