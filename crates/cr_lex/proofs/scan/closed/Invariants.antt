use Rattle.std.proofs.Common.{length, ◌-◌, ◌≡◌, ◌≤◌, false}
use Rattle.cr_lex.specs.Scanning as scanning
use Rattle.cr_lex.specs.Joins.{rest}
use Rattle.cr_lex.proofs.scan.closed.Given as goal

abbrev pub invariant-loop-next : goal.invariant-loop-next
invariant-loop-next l = record {
  within : l.at ≤ length l.bytes;
  from : l.from ≤ l.at;
  same : scanning.closed l.quote false l.from (rest l.bytes l.from) ≡ scanning.closed l.quote l.escaped l.at (rest l.bytes l.at);
}

abbrev pub decreases-loop-next : goal.decreases-loop-next
decreases-loop-next l = length l.bytes - l.at
