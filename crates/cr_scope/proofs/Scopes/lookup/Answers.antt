use Rattle.std.proofs.Common.{arith}
use Rattle.cr_scope.proofs.Declared.{lookup_step, best_within}
use Rattle.cr_scope.proofs.Scopes.lookup.Goals as goal

pub loop-i-preserved : goal.loop-i-preserved
loop-i-preserved c = record {
  best = lookup_step _ c.loop-i.i _ _ _ _ (omega arith) c.depth_seen.ensures c.loop-i.invariant.best c.later_of-best.ensures;
  given = rw c.later_of-best.ensures (best_within _ _ c.depth_seen.result c.loop-i.best (omega (arith, c.loop-i.invariant.within)) c.loop-i.invariant.given);
  within = omega (arith, c.loop-i.invariant.within);
}
