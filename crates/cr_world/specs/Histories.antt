-- What a history of calls has of each kind.
use Rattle.std.specs.Prelude.{ℕ, List, [], ◌∷◌, ◌++◌}
use Rattle.cr_world.specs.Outside.{Reading}
use Rattle.cr_world.specs.declared.history.History.{History, Start, Read', Replace'}

-- the reads, in their order
abbrev pub reads_in : History → List Reading
reads_in Start = []
reads_in (Read' marker before path bytes) = reads_in before ++ (path.value, bytes.value.items) ∷ []
reads_in (Replace' marker before path) = reads_in before

-- the paths of the replaces, in their order
abbrev pub replaces_in : History → List (List ℕ)
replaces_in Start = []
replaces_in (Read' marker before path bytes) = replaces_in before
replaces_in (Replace' marker before path) = replaces_in before ++ path.value ∷ []
