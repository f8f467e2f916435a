use Rattle.cr_acting.proofs.Keeping.{left_so}
use Rattle.cr_acting.proofs.Parts.{leads_as, leads_by_operands_alone}
use Rattle.cr_acting.specs.Binding.{state_of}
use Rattle.cr_acting.specs.Ends.{leaving}
use Rattle.cr_operands.specs.Operands.{values_at, with_values}
use Rattle.cr_acting.proofs.binding.Binding.leave_operands.Goals as goal

pub returns-then-not-leaves : goal.returns-then-not-leaves
returns-then-not-leaves c =
    leads_as c.args.self.now _ (λ _. with_values (values_at c.args.self.now.types c.args.self.now.operands c.args.mark)) (leaving c.args.leaves (values_at c.args.self.now.types c.args.self.now.operands c.args.mark)) (λ source. left_so c.args.leaves c.if-not-leaves.true (values_at c.args.self.now.types c.args.self.now.operands c.args.mark) source (state_of c.args.self.now))
    (leads_by_operands_alone c.args.self.now.types c.args.self.now.bound c.args.self.now.operands c.requires.whole (with_values (values_at c.args.self.now.types c.args.self.now.operands c.args.mark)) _ (c.restore.ensures.grows c.args.self.now.types c.requires.whole.held) (c.restore.ensures.ok c.args.self.now.types))
