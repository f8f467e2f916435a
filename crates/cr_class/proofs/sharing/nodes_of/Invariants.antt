use Rattle.std.proofs.Common.{map}
use Rattle.std.specs.BTreeSet as tree
use Rattle.cr_class.specs.RenameClass.{key_cmp}
use Rattle.cr_class.proofs.Sharings.{AreNodes}
use Rattle.cr_class.proofs.sharing.nodes_of.Given as goal

abbrev pub invariant-loop-i : goal.invariant-loop-i
invariant-loop-i l = AreNodes (map (λ k. k.now) l.keys) (tree.contains key_cmp l.known) l.i l.nodes.items
