use Rattle.std.proofs.Common.{◌≡◌, ◌≤◌, None, length}
use Rattle.cr_sema.specs.Sema.{source_of}
use Rattle.cr_reading.specs.Loops.{Reads}
use Rattle.cr_reading.proofs.reading.read_tokens.Given as goal

abbrev pub invariant-tokens : goal.invariant-tokens
invariant-tokens l = record {
  reads : Reads (source_of l.names l.tokens) l.machine l.sema;
  idle : l.machine.waits ≡ None;
  place : l.machine.place ≡ l.passed;
  placed : l.machine.place ≤ length l.tokens;
}
