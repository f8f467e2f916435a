-- What a run is to do, from the words of the command line, and the refusals that the words decide alone. Our own rules, in
-- the order of refusals.
use Rattle.std.specs.Prelude.{ℕ, ◌≡◌, Bool, true, not, ◌||◌, List, [], Option, Some, None, Result, Ok, Err, if◌then◌else◌, bytes_eq, codes}
use Rattle.std.specs.Option.{option_map}
use Rattle.cr_base.specs.Names.{is_identifier, is_keyword, is_reserved}
use Rattle.cr_base.specs.Path.{normalised}
use Rattle.cr_words.specs.QualifiedNames.{QualifiedName}
use Rattle.cr_words.specs.Requests.{Request, Task, Rename, Aim, renames, generates, at_offset, name_in_file, name_in_database, read_words}
use Rattle.cr_goal.specs.declared.refusal.Refused.{Refused}
use Rattle.cr_goal.specs.declared.goal.Listing.{Listing}
use Rattle.cr_goal.specs.declared.goal.Listing.TheVariants as listing
use Rattle.cr_goal.specs.Refusals.{usage, reserved, unbuilt}

-- what is sought: what stands at an offset of a file, or what has a name
pub data Sought : Type 0 where
  stands_at : List ℕ → ℕ → Sought
  has_name : QualifiedName → Sought

-- A rename of what is sought in some units: the new name, the folder outside of which no file may change, and whether the
-- files are written.
pub record Goal : Type 0 where
  pub sought : Sought
  pub units : Listing
  pub new : List ℕ
  pub root : Option (List ℕ)
  pub in_place : Bool

-- A new name that is refused by itself (C11 6.4.2.1, 6.4.1, 7.1.3, and `defined` and `main` by our own rule).
unfoldable pub is_refused : List ℕ → Bool
is_refused new = not (is_identifier new) || is_keyword new || bytes_eq new (codes "defined") || bytes_eq new (codes "main") || is_reserved new

abbrev pub path_of_word : List ℕ → List ℕ
path_of_word word = normalised [] word

abbrev pub sought_by : Aim → Sought
sought_by (at_offset source offset database) = stands_at (path_of_word source) offset
sought_by (name_in_file source name) = has_name name
sought_by (name_in_database database name) = has_name name

-- the units of a database, or of the source alone, where there is none
abbrev pub units_at : List ℕ → Option (List ℕ) → Listing
units_at source None = listing.Alone (path_of_word source)
units_at source (Some database) = listing.Database (path_of_word database)

abbrev pub units_by : Aim → Listing
units_by (at_offset source offset database) = units_at source database
units_by (name_in_file source name) = units_at source None
units_by (name_in_database database name) = listing.Database (path_of_word database)

abbrev pub goal_of_rename : Rename → Result Goal Refused
goal_of_rename rename =
    if is_refused rename.new_name then reserved rename.new_name
    else Ok (record {
      sought = sought_by rename.aim;
      units = units_by rename.aim;
      new = rename.new_name;
      root = option_map path_of_word rename.root;
      in_place = rename.in_place;
    })

-- nothing is generated yet
abbrev pub goal_of_task : Task → Result Goal Refused
goal_of_task (renames rename) = goal_of_rename rename
goal_of_task (generates units) = unbuilt (codes "--generate")

abbrev pub goal_of_request : Result Request (List ℕ) → Result Goal Refused
goal_of_request (Err word) = usage word
goal_of_request (Ok request) = goal_of_task request.task

-- what the words ask for, or the first refusal that they decide
unfoldable pub goal_of : List (List ℕ) → Result Goal Refused
goal_of words = goal_of_request (read_words words)

-- the words ask that the files are written
abbrev pub IsInPlace : List (List ℕ) → Type 0
IsInPlace words = (goal : Goal) × (goal_of words ≡ Ok goal) × (goal.in_place ≡ true)
