use Rattle.std.proofs.Common.{◌-◌, ◌∙◌, arith}
use Rattle.cr_scope.proofs.Numbers.{stepped_on, stepped_over}
use Rattle.cr_scope.proofs.Scopes.last_at.Goals as goal

pub returns-then-is_at : goal.returns-then-is_at
returns-then-is_at c = (
  omega (arith, c.loop-i.invariant.0),
  c.loop-i.invariant.1 ∙ stepped_on _ _ c.loop-i.i (c.loop-i.i - 1) _ _ (omega arith) c.depth_seen.ensures c.is_at.ensures c.if-is_at.true,
)

pub loop-i-preserved : goal.loop-i-preserved
loop-i-preserved c = (
  omega (arith, c.loop-i.invariant.0),
  c.loop-i.invariant.1 ∙ stepped_over _ _ c.loop-i.i (c.loop-i.i - 1) _ _ (omega arith) c.depth_seen.ensures c.is_at.ensures c.if-is_at.false,
)
