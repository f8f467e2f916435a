-- What the words of the command line ask for (our own rule).
use Rattle.std.specs.Prelude.{ℕ, Bool, true, false, ◌||◌, List, [], ◌∷◌, Option, Some, None, Result, Ok, Err, if◌then◌else◌, codes}
use Rattle.std.specs.List.{list_any, list_all}
use Rattle.cr_words.specs.Numbers.{number_of}
use Rattle.cr_words.specs.QualifiedNames.{QualifiedName, qualified_name}
use Rattle.cr_words.specs.Givens.{Given, givens, first_fault, value_of, is_of}
use Rattle.cr_words.specs.declared.kind.WordKind.{WordKind}
use Rattle.cr_words.specs.declared.kind.WordKind.TheVariants as k
use Rattle.cr_words.specs.declared.request.Pooling.{Pooling}

-- What is to be renamed: what stands at an offset of a file, or what has a name in a file, or in the units of a
-- database. With an offset there may be a database too.
pub data Aim : Type 0 where
  at_offset : List ℕ → ℕ → Option (List ℕ) → Aim
  name_in_file : List ℕ → QualifiedName → Aim
  name_in_database : List ℕ → QualifiedName → Aim

pub record Rename : Type 0 where
  pub aim : Aim
  pub new_name : List ℕ
  pub root : Option (List ℕ)
  pub in_place : Bool

pub data Task : Type 0 where
  renames : Rename → Task
  generates : ℕ → Task

pub record Request : Type 0 where
  pub task : Task
  pub pooling : Pooling

abbrev pub number_in : Option (List ℕ) → Option ℕ
number_in None = None
number_in (Some text) = number_of text

-- the number that is the value of an option
abbrev pub number_at : WordKind → List Given → Option ℕ
number_at kind words = number_in (value_of kind words)

abbrev pub or_else : ℕ → Option ℕ → ℕ
or_else default None = default
or_else default (Some number) = number

-- 4 workers and 2 retries, where the words don't say others
abbrev pub pooling : List Given → Pooling
pooling words = record {
  workers = or_else 4 (number_at k.Workers words);
  retries = or_else 2 (number_at k.Retries words);
  rehearse = number_at k.Rehearse words;
}

abbrev pub name_of_value : Option (List ℕ) → Option QualifiedName
name_of_value None = None
name_of_value (Some text) = qualified_name text

abbrev pub name_in : List Given → Option QualifiedName
name_in words = name_of_value (value_of k.QualifiedName words)

-- what stands at an offset wants its file
abbrev pub aim_at_offset : Option (List ℕ) → Option (List ℕ) → ℕ → Result Aim (List ℕ)
aim_at_offset None database offset = Err (codes "SOURCE")
aim_at_offset (Some source) database offset = Ok (at_offset source offset database)

-- a name is looked for in a file or in a database, and not in both
abbrev pub aim_by_name : Option (List ℕ) → Option (List ℕ) → QualifiedName → Result Aim (List ℕ)
aim_by_name None None name = Err (codes "SOURCE")
aim_by_name None (Some database) name = Ok (name_in_database database name)
aim_by_name (Some source) None name = Ok (name_in_file source name)
aim_by_name (Some source) (Some database) name = Err source

-- an offset or a name, and not both
abbrev pub aim_by : Option (List ℕ) → Option (List ℕ) → Option ℕ → Option QualifiedName → Result Aim (List ℕ)
aim_by source database None None = Err (codes "--offset")
aim_by source database None (Some name) = aim_by_name source database name
aim_by source database (Some offset) None = aim_at_offset source database offset
aim_by source database (Some offset) (Some name) = Err (codes "--offset")

abbrev pub aim : List Given → Result Aim (List ℕ)
aim words = aim_by (value_of k.Source words) (value_of k.Database words) (number_at k.Offset words) (name_in words)

abbrev pub rename_to : List Given → List ℕ → Result Aim (List ℕ) → Result Rename (List ℕ)
rename_to words new_name (Err word) = Err word
rename_to words new_name (Ok aim) =
    Ok (record { aim = aim; new_name = new_name; root = value_of k.Root words; in_place = list_any (is_of k.InPlace) words })

-- the new name must be there
abbrev pub rename_by : List Given → Option (List ℕ) → Result Rename (List ℕ)
rename_by words None = Err (codes "--new-name")
rename_by words (Some new_name) = rename_to words new_name (aim words)

abbrev pub rename : List Given → Result Rename (List ℕ)
rename words = rename_by words (value_of k.NewName words)

abbrev pub may_stand_by_generate : Given → Bool
may_stand_by_generate g = is_of k.Generate g || is_of k.Workers g || is_of k.Retries g || is_of k.Rehearse g

abbrev pub task_to_rename : Result Rename (List ℕ) → Result Task (List ℕ)
task_to_rename (Err word) = Err word
task_to_rename (Ok rename) = Ok (renames rename)

-- with `--generate` none but the three options of workers may stand
abbrev pub task_by : List Given → Option ℕ → Result Task (List ℕ)
task_by words None = task_to_rename (rename words)
task_by words (Some units) = if list_all may_stand_by_generate words then Ok (generates units) else Err (codes "--generate")

abbrev pub task : List Given → Result Task (List ℕ)
task words = task_by words (number_at k.Generate words)

abbrev pub request_by : List Given → Result Task (List ℕ) → Result Request (List ℕ)
request_by words (Err word) = Err word
request_by words (Ok task) = Ok (record { task = task; pooling = pooling words })

abbrev pub request : List Given → Option (List ℕ) → Result Request (List ℕ)
request words (Some word) = Err word
request words None = request_by words (task words)

-- what the words ask for, or the word that is wrong or missing
abbrev pub read_words : List (List ℕ) → Result Request (List ℕ)
read_words words = request (givens words) (first_fault [] (givens words))
