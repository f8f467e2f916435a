use Rattle.std.proofs.Common.{arith, ap}
use Rattle.cr_world.specs.Calls.{CallLog}
use Rattle.cr_world.proofs.mem_sink.MemSinkSink.write.Goals as goal

pub returns-then-next-clause-count : goal.returns-then-next-clause-count
returns-then-next-clause-count c = omega (arith, ap (λ (l : CallLog). l.failed) c.next.ensures.counted, c.add_fault.ensures.rises)

pub returns-in-Err-clause-count : goal.returns-in-Err-clause-count
returns-in-Err-clause-count c = omega (arith, ap (λ (l : CallLog). l.failed) c.next.ensures.counted, c.add_fault-in-Err.ensures.rises)
