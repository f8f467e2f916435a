-- The first of some paths at which a file is there, as far as files are known: own rule of this project.
use Rattle.std.specs.Prelude.{ℕ, if◌then◌else◌, List, [], ◌∷◌, ◌++◌, bytes_eq, codes, decimal}
use Rattle.std.specs.List.{position_or_len}
use Rattle.cr_base.specs.Path.{apart_path}
use Rattle.cr_base.specs.declared.unit.Unit.{Unit}
use Rattle.cr_snapshot.specs.declared.known.KnownFile.{KnownFile}
use Rattle.cr_snapshot.specs.Files.{Finding, Present, Absent, Unknown, finding}
use Rattle.cr_snapshot.specs.IncludeSearch.{is_apart}
use Rattle.cr_macros.specs.Tokens.{Text}

-- what is known of each path, and its number where it is known
pub record World : Type 0 where
  pub find : Text → Finding
  pub number : Text → ℕ

-- the path with the bytes that are there, nothing, or the paths of which nothing is known
pub data Search : Type 0 where
  Finds : Text → ℕ → List ℕ → Search
  Misses : Search
  Lacks : List Text → Search

-- those of which nothing is known, up to the first that is there
abbrev pub unknown : (Text → Finding) → List Text → List Text
unknown find [] = []
unknown find (path ∷ paths) = elim (find path) [ Present n bytes ↦ [] | Absent ↦ unknown find paths | Unknown ↦ path ∷ unknown find paths ]

-- the first that is there
abbrev pub search : (Text → Finding) → List Text → Search
search find [] = Misses
search find (path ∷ paths) = elim (find path) [ Present n bytes ↦ Finds path n bytes | Absent ↦ search find paths | Unknown ↦ Lacks (path ∷ unknown find paths) ]

-- how a search goes on behind some paths of which nothing is known
abbrev pub lacks : List Text → Search → Search
lacks [] found = found
lacks (path ∷ paths) found = Lacks (path ∷ paths)

-- those up to the first that is there, those beside all files aside
abbrev pub looked_for : (Text → Finding) → List Text → List Text
looked_for find [] = []
looked_for find (path ∷ paths) =
    (if is_apart path then [] else path ∷ []) ++ elim (find path) [ Present n bytes ↦ [] | Absent ↦ looked_for find paths | Unknown ↦ looked_for find paths ]

-- the number of a path among those that are known
abbrev pub number_among : Text → List KnownFile → ℕ
number_among path = position_or_len (λ file. bytes_eq path file.path)

abbrev pub world_of : List KnownFile → World
world_of files = record { find = λ path. finding path files; number = λ path. number_among path files }

-- the path of the text that is made from a unit's command words
abbrev pub words_path : Unit → Text
words_path unit = apart_path (codes "words/" ++ decimal unit.number)
