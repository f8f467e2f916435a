use Rattle.cr_operands.specs.Operands.{with_operands, seen}
use Rattle.cr_operands.proofs.operands.Operands.open_list.Goals as goal

pub returns-clause-ok : goal.returns-clause-ok
returns-clause-ok c = λ s j.
    record (seen c.args.types.now c.args.records.now c.args.self.now s) { target = c.list-self.ensures.ok (with_operands c.args.types.now c.args.self.now s) j }
