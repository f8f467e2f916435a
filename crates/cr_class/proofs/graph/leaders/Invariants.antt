use Rattle.std.specs.BTreeMap.{get_by}
use Rattle.cr_class.proofs.Leading.{AreLeading}
use Rattle.cr_class.proofs.graph.leaders.Given as goal

abbrev pub invariant-loop-i : goal.invariant-loop-i
invariant-loop-i g l = AreLeading g.T.Ord.cmp l.items l.i l.leaders.items (λ q. get_by (λ k. g.T.Ord.cmp q k.now) l.firsts)
