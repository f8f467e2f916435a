use Rattle.std.proofs.Common.{length, ◌-◌, ◌≡◌, ◌≤◌, ◌++◌}
use Rattle.cr_lex.specs.Joins.{text_of}
use Rattle.cr_lex.specs.Scanning.{own_cells}
use Rattle.cr_lex.proofs.text.without_joins.Given as goal

abbrev pub invariant-loop-next : goal.invariant-loop-next
invariant-loop-next l = record {
  within : l.at ≤ length l.bytes;
  same : l.text.items ++ text_of (own_cells l.bytes l.at l.end) ≡ text_of (own_cells l.bytes l.fn.from l.end);
}

abbrev pub decreases-loop-next : goal.decreases-loop-next
decreases-loop-next l = length l.bytes - l.at
