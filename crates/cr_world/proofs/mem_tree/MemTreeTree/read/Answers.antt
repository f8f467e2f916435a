use Rattle.std.proofs.Common.{arith, ap}
use Rattle.cr_world.specs.Calls.{CallLog}
use Rattle.cr_world.proofs.mem_tree.MemTreeTree.read.Goals as goal

pub returns-then-next-clause-counts : goal.returns-then-next-clause-counts
returns-then-next-clause-counts c = λ path. omega (arith, ap (λ (l : CallLog). l.failed) c.next.ensures.counted, c.add_fault.ensures.rises)
