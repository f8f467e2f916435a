-- What a run is to do, from the words of the command line: the refusals that the words decide alone. Our own rules,
-- in the order of refusals.
use Rattle.std.specs.Prelude.{ℕ, ◌≡◌, Bool, true, not, ◌||◌, List, [], ◌++◌, Option, Some, None, Result, Ok, Err, if◌then◌else◌, bytes_eq, codes}
use Rattle.std.specs.Option.{option_map}
use Rattle.cr_base.specs.Names.{is_identifier, is_keyword, is_reserved}
use Rattle.cr_base.specs.Path.{normalised}
use Rattle.cr_words.specs.Requests.{Request, Task, Rename, Aim, renames, generates, at_offset, name_in_file, name_in_database, read_words}

-- a refusal: its status, and what its line says
pub record Refused : Type 0 where
  pub status : ℕ
  pub text : List ℕ

abbrev pub refused : {A : Type 0} → ℕ → List ℕ → Result A Refused
refused status text = Err (record { status = status; text = text })

-- what isn't built yet, with what wants it
abbrev pub unbuilt : {A : Type 0} → List ℕ → Result A Refused
unbuilt what = refused 20 (codes "unbuilt: " ++ what)

abbrev pub reserved : {A : Type 0} → List ℕ → Result A Refused
reserved name = refused 7 (codes "reserved: " ++ name)

-- one step, and then another that goes on with what it gave, up to the first refusal
infixl 10 ◌>>=◌
abbrev pub ◌>>=◌ : {A B : Type 0} → Result A Refused → (A → Result B Refused) → Result B Refused
(Ok found) >>= next = next found
(Err r) >>= next = Err r

-- A rename of what stands at an offset of the source: the paths of the source and of the database, the new name, and
-- whether the files are written.
pub record Goal : Type 0 where
  pub source : List ℕ
  pub offset : ℕ
  pub database : Option (List ℕ)
  pub new : List ℕ
  pub in_place : Bool

-- A new name that is refused by itself (C11 6.4.2.1, 6.4.1, 7.1.3, and `defined` and `main` by our own rule).
unfoldable pub is_refused : List ℕ → Bool
is_refused new = not (is_identifier new) || is_keyword new || bytes_eq new (codes "defined") || bytes_eq new (codes "main") || is_reserved new

-- a name is not looked for by itself yet, and `--root` has no effect yet
abbrev pub goal_at : Rename → Aim → Option (List ℕ) → Result Goal Refused
goal_at rename (name_in_file source name) root = unbuilt (codes "--qualified-name")
goal_at rename (name_in_database database name) root = unbuilt (codes "--qualified-name")
goal_at rename (at_offset source offset database) (Some root) = unbuilt (codes "--root")
goal_at rename (at_offset source offset database) None = Ok (record {
  source = normalised [] source;
  offset = offset;
  database = option_map (normalised []) database;
  new = rename.new_name;
  in_place = rename.in_place;
})

abbrev pub goal_of_rename : Rename → Result Goal Refused
goal_of_rename rename = if is_refused rename.new_name then reserved rename.new_name else goal_at rename rename.aim rename.root

-- nothing is generated yet
abbrev pub goal_of_task : Task → Result Goal Refused
goal_of_task (renames rename) = goal_of_rename rename
goal_of_task (generates units) = unbuilt (codes "--generate")

abbrev pub goal_of_request : Result Request (List ℕ) → Result Goal Refused
goal_of_request (Err word) = refused 2 (codes "usage: " ++ word)
goal_of_request (Ok request) = goal_of_task request.task

-- what the words ask for, or the first refusal that they decide
unfoldable pub goal_of : List (List ℕ) → Result Goal Refused
goal_of words = goal_of_request (read_words words)

-- the words ask that the files are written
abbrev pub IsInPlace : List (List ℕ) → Type 0
IsInPlace words = (goal : Goal) × (goal_of words ≡ Ok goal) × (goal.in_place ≡ true)
