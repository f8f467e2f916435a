use Rattle.std.proofs.Common.{arith, ap}
use Rattle.cr_world.specs.Calls.{CallLog}
use Rattle.cr_world.proofs.Held.{replace_failed}
use Rattle.cr_world.proofs.mem_tree.MemTreeTree.replace.Goals as goal

pub returns-then-next-clause-counts : goal.returns-then-next-clause-counts
returns-then-next-clause-counts c = λ path. omega (arith, ap (λ (l : CallLog). l.failed) c.next.ensures.counted, c.add_fault.ensures.rises)

pub returns-in-Err-clause-files : goal.returns-in-Err-clause-files
returns-in-Err-clause-files c = replace_failed _ _ _ _ c.in-Err.ensures.err

pub returns-in-Err-clause-counts : goal.returns-in-Err-clause-counts
returns-in-Err-clause-counts c = λ path. omega (arith, ap (λ (l : CallLog). l.failed) c.next.ensures.counted, c.add_fault-in-Err.ensures.rises)
