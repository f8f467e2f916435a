-- A search that has passed some paths.
use Rattle.std.proofs.Common.{List, [], ◌∷◌, ◌++◌}
use Rattle.cr_snapshot.specs.Files.{Finding}
use Rattle.cr_macros.specs.Tokens.{Text}
use Rattle.cr_phase4.specs.Search.{Search, Lacks, search, unknown}

-- how the search ends behind these paths of which nothing is known
abbrev pub behind : List Text → (Text → Finding) → List Text → Search
behind [] find paths = search find paths
behind (path ∷ before) find paths = Lacks ((path ∷ before) ++ unknown find paths)
