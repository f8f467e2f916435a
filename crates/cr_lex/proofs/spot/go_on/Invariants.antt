use Rattle.std.proofs.Common.{length, ◌-◌, ◌≡◌, ◌≤◌}
use Rattle.cr_lex.specs.Standing.{IsSpot, left_at}
use Rattle.cr_lex.proofs.spot.go_on.Given as goal

abbrev pub invariant-loop-first : goal.invariant-loop-first
invariant-loop-first l = record {
  spot : IsSpot l.bytes l.spot;
  from : l.fn.from.at ≤ l.spot.at;
  same : left_at l.bytes l.fn.from ≡ left_at l.bytes l.spot;
}

abbrev pub decreases-loop-first : goal.decreases-loop-first
decreases-loop-first l = length l.bytes - l.spot.at
