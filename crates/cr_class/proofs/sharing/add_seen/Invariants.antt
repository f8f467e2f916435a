use Rattle.std.proofs.Common.{map}
use Rattle.std.specs.BTreeSet as tree
use Rattle.cr_class.specs.RenameClass.{key_cmp}
use Rattle.cr_class.proofs.Sharings.{IsAdded}
use Rattle.cr_class.proofs.sharing.add_seen.Given as goal

abbrev pub invariant-loop-i : goal.invariant-loop-i
invariant-loop-i l = IsAdded (map (λ k. k.now) l.keys) l.seen l.i (tree.contains key_cmp l.initial.known) (tree.contains key_cmp l.known)
