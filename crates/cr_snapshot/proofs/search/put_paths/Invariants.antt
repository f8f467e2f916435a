use Rattle.std.proofs.Common.{◌≡◌, ◌++◌, take}
use Rattle.cr_snapshot.specs.IncludeSearch as spec
use Rattle.cr_snapshot.proofs.search.put_paths.Given as goal

abbrev pub invariant-loop-directory : goal.invariant-loop-directory
invariant-loop-directory l = l.paths.items ≡ l.fn.paths.items ++ spec.paths_in (take l.directory-index l.directories) l.name
