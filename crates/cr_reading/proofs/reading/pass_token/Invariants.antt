use Rattle.std.proofs.Common.{◌≡◌, ◌≤◌, None, length}
use Rattle.cr_sema.specs.Sema.{source_of}
use Rattle.cr_reading.specs.Loops.{Reads, events_left}
use Rattle.cr_reading.proofs.reading.pass_token.Given as goal

abbrev pub invariant-events : goal.invariant-events
invariant-events l = record {
  reads : Reads (source_of l.names l.tokens) l.machine l.sema;
  idle : l.machine.waits ≡ None;
  placed : l.machine.place ≤ length l.tokens;
  stands : l.machine.place ≡ l.fn.machine.place;
}

abbrev pub decreases-events : goal.decreases-events
decreases-events l = events_left l.machine
