use Rattle.std.proofs.Common.{length, ◌-◌, ◌≡◌, ◌≤◌}
use Rattle.cr_base.specs.Names as names
use Rattle.cr_lex.specs.Scanning as scanning
use Rattle.cr_lex.specs.Joins.{rest}
use Rattle.cr_lex.proofs.scan.word_end.Given as goal

abbrev pub invariant-loop-next : goal.invariant-loop-next
invariant-loop-next l = record {
  within : l.at ≤ length l.bytes;
  from : l.from ≤ l.at;
  same : scanning.run_end names.is_word_byte l.from (rest l.bytes l.from) ≡ scanning.run_end names.is_word_byte l.at (rest l.bytes l.at);
}

abbrev pub decreases-loop-next : goal.decreases-loop-next
decreases-loop-next l = length l.bytes - l.at
