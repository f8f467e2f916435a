-- How the database was read. Our own rules.
use Rattle.std.specs.Prelude.{ℕ, ◌≡◌, List, [], ◌∷◌, ◌++◌, Some, None, Ok, if◌then◌else◌, bytes_eq}
use Rattle.cr_world.specs.Outside.{Files, Reading}
use Rattle.cr_compdb.specs.declared.entry.Entry.{Entry}
use Rattle.cr_goal.specs.declared.goal.Listing.{Listing}
use Rattle.cr_goal.specs.Units.{entries_of, entries_in}

-- The files as these reads handed them over, each by its first one. What handed over nothing counts as an empty text.
abbrev pub as_read : List Reading → Files
as_read [] path = None
as_read (reading ∷ more) path = if bytes_eq path reading.0 then Some reading.1 else as_read more path

-- the entries are those of the database as it was read, whatever is read afterwards
abbrev pub AreEntriesRead : Listing → List Entry → List Reading → List Reading → Type 0
AreEntriesRead units entries before now =
    (more later : List Reading) → now ≡ before ++ more → entries_of (as_read (more ++ later)) units ≡ Ok entries

-- the same of the database at a path
abbrev pub AreEntriesReadAt : List ℕ → List Entry → List Reading → List Reading → Type 0
AreEntriesReadAt path entries before now =
    (more later : List Reading) → now ≡ before ++ more → entries_in (as_read (more ++ later) path) ≡ Ok entries
