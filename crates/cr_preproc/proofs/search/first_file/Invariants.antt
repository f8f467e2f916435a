use Rattle.std.proofs.Common.{◌≡◌, drop}
use Rattle.cr_snapshot.specs.Files.{finding}
use Rattle.cr_phase4.specs.Search.{search}
use Rattle.cr_preproc.proofs.Searches.{behind}
use Rattle.cr_preproc.proofs.search.first_file.Given as goal

abbrev pub invariant-loop-i : goal.invariant-loop-i
invariant-loop-i l = behind l.unknown.items (λ path. finding path l.snapshot) (drop l.i l.paths) ≡ search (λ path. finding path l.snapshot) l.paths
