use Rattle.std.proofs.Common.{length, ◌-◌, ◌≡◌, ◌≤◌}
use Rattle.cr_lex.specs.Lexing as lexing
use Rattle.cr_lex.specs.Scanning.{own_cells}
use Rattle.cr_lex.proofs.text.first_trigraph.Given as goal

abbrev pub invariant-loop-next : goal.invariant-loop-next
invariant-loop-next l = record {
  within : l.at ≤ length l.bytes;
  same : lexing.first_trigraph (own_cells l.bytes l.fn.from l.end) ≡ lexing.first_trigraph (own_cells l.bytes l.at l.end);
}

abbrev pub decreases-loop-next : goal.decreases-loop-next
decreases-loop-next l = length l.bytes - l.at
