use Rattle.std.proofs.Common.{◌+◌, length, map}
use Rattle.cr_class.proofs.Reaching.{IsSearch, unseen}
use Rattle.cr_class.proofs.graph.reached.Given as goal

abbrev pub invariant-loop-node : goal.invariant-loop-node
invariant-loop-node l = IsSearch (map (λ v. v.items) l.links) l.fn.start.items l.seen.items l.left.items

abbrev pub decreases-loop-node : goal.decreases-loop-node
decreases-loop-node l = unseen l.seen.items (map (λ v. v.items) l.links) + length l.left.items
