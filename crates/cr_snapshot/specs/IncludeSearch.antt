-- Where an include is looked for: own rule of this project, after the usual search, where C11 6.10.2 leaves
-- the places open.
use Rattle.std.specs.Prelude.{ℕ, Bool, List, [], ◌∷◌, ◌++◌, map, nat_eq, codes, if◌then◌else◌}
use Rattle.std.specs.List.{starts_with}
use Rattle.cr_base.specs.Path.{normalised, is_rooted, apart_path}
use Rattle.cr_base.specs.declared.unit.Unit.{Unit}
use Rattle.cr_snapshot.specs.BuiltIns.{is_built_in}

-- the path stands beside all files: a built-in header, or the text of a unit's command words
abbrev pub is_apart : List ℕ → Bool
is_apart path = starts_with nat_eq path (codes "//")

-- the path is that of the text of a unit's command words
abbrev pub is_words : List ℕ → Bool
is_words path = starts_with nat_eq path (codes "//words/")

-- the directory in which a file lies: two dots from its path
abbrev pub directory_of : List ℕ → List ℕ
directory_of path = normalised path (codes "..")

-- The directory of an including file, if it has one: a text of command words stands in the unit's
-- directory, and a built-in header in none.
abbrev pub own_directories : List ℕ → List ℕ → List (List ℕ)
own_directories directory from =
    if is_words from then directory ∷ [] else if is_apart from then [] else directory_of from ∷ []

-- the paths of a name in each of the directories
abbrev pub paths_in : List (List ℕ) → List ℕ → List (List ℕ)
paths_in directories name = map (λ directory. normalised directory name) directories

-- the built-in header of a name, if there is one
abbrev pub built_in_paths : List ℕ → List (List ℕ)
built_in_paths name = if is_built_in name then apart_path name ∷ [] else []

-- The paths at which an include of a name in the file `from` is looked for, in order: those of `-iquote`
-- stand between the file's own directory and those of `-I`. An absolute name has itself alone.
abbrev pub candidates : Unit → List ℕ → Bool → List ℕ → List (List ℕ)
candidates unit from angled name =
    if is_rooted name then normalised [] name ∷ []
    else (if angled then [] else paths_in (own_directories unit.directory from) name ++ paths_in unit.quote_dirs name)
    ++ paths_in unit.dirs name ++ paths_in unit.system_dirs name ++ built_in_paths name
