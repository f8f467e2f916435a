use Rattle.std.proofs.Common.{◌≡◌, ◌++◌, ℕ, List, Some, take}
use Rattle.cr_world.specs.Outside.{Files, NoneFell, AllStay}
use Rattle.cr_edit.specs.Writing.{written, paths_of}
use Rattle.cr_edit.proofs.write.replace_all.Given as goal

abbrev pub invariant-loop-write : goal.invariant-loop-write
invariant-loop-write g l =
    ((files : Files) → g.T.Tree.files l.fn.tree ≡ Some files → (told : Files) × (g.T.Tree.files l.tree ≡ Some told) × ((path : List ℕ) → told path ≡ written (take l.write-index l.writes) files path))
    × NoneFell (g.T.Tree.replaces l.fn.tree) (g.T.Tree.replaces l.tree)
    × AllStay (g.T.Tree.reads l.fn.tree) (g.T.Tree.reads l.tree)
    × (g.T.Tree.replacings l.tree ≡ g.T.Tree.replacings l.fn.tree ++ take l.write-index (paths_of l.writes))
    × (g.T.Tree.readings l.tree ≡ g.T.Tree.readings l.fn.tree)
