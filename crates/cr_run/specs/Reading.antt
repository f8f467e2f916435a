-- What a run may read, and why a read fault came.
use Rattle.std.specs.Prelude.{ℕ, ◌≡◌, ◌⊎◌, List, [], ◌∷◌, ◌++◌, Option, Some, None, Result, Ok, Err, if◌then◌else◌, bytes_eq}
use Rattle.std.specs.List.{All}
use Rattle.cr_world.specs.Outside.{Files, Counts, Reading, NoneFell, AllStay}
use Rattle.cr_compdb.specs.declared.entry.Entry.{Entry}
use Rattle.cr_run.specs.Goal.{Goal, goal_of}
use Rattle.cr_run.specs.Units.{entries_of, entries_in, units_in, IsMain}
use Rattle.cr_run.specs.declared.refusal.Refusal.{Refusal}
use Rattle.cr_run.specs.declared.refusal.Refusal.TheVariants as refusal

-- the path is that of the database, of the source, or of the main file of a unit
abbrev pub MayReadFor : Goal → Files → List ℕ → Type 0
MayReadFor goal files path =
    (goal.database ≡ Some path) ⊎ (path ≡ goal.source)
    ⊎ ((entries : List Entry) × (entries_of files goal ≡ Ok entries) × IsMain (units_in entries) path)

-- a path that the call may read
abbrev pub MayRead : List (List ℕ) → Files → List ℕ → Type 0
MayRead words files path = (goal : Goal) × (goal_of words ≡ Ok goal) × MayReadFor goal files path

-- The files as these reads handed them over, each by its first one. What handed over nothing counts as an empty text.
abbrev pub as_read : List Reading → Files
as_read [] path = None
as_read (reading ∷ more) path = if bytes_eq path reading.0 then Some reading.1 else as_read more path

-- The reads went on by some of paths that may be read for a goal, by the database as it was read among them.
abbrev pub ReadsForItself : Goal → List Reading → List Reading → Type 0
ReadsForItself goal before now =
    (more : List Reading) × (now ≡ before ++ more) × All (λ reading. MayReadFor goal (as_read more) reading.0) more

-- The reads went on by some of paths that the call may read, by the database as it was read among them.
abbrev pub ReadsByItself : List (List ℕ) → List Reading → List Reading → Type 0
ReadsByItself words before now =
    (more : List Reading) × (now ≡ before ++ more) × All (λ reading. MayRead words (as_read more) reading.0) more

-- the entries of a goal are those of the database as it was read, whatever is read afterwards
abbrev pub AreEntriesRead : Goal → List Entry → List Reading → List Reading → Type 0
AreEntriesRead goal entries before now =
    (more later : List Reading) → now ≡ before ++ more → entries_of (as_read (more ++ later)) goal ≡ Ok entries

-- the same of the database at a path
abbrev pub AreEntriesReadAt : List ℕ → List Entry → List Reading → List Reading → Type 0
AreEntriesReadAt path entries before now =
    (more later : List Reading) → now ≡ before ++ more → entries_in (as_read (more ++ later) path) ≡ Ok entries

-- Files stay, and so do the counts of failed replaces; no count of failed reads falls, and no replace is asked for.
pub record ReadsOnly (files files' : Option Files) (reads reads' replaces replaces' : Counts) (replacings replacings' : List (List ℕ)) : Type 0 where
  pub same : files' ≡ files
  pub later : NoneFell reads reads'
  pub stay : AllStay replaces replaces'
  pub none : replacings' ≡ replacings

-- a fault of reading has its cause
abbrev pub HasReadCause : {V : Type 0} → (List ℕ → Type 0) → Result V Refusal → Type 0
HasReadCause Caused (Ok found) = Unit {0}
HasReadCause Caused (Err (refusal.Usage word)) = Unit {0}
HasReadCause Caused (Err (refusal.Database text)) = Unit {0}
HasReadCause Caused (Err (refusal.ReadFault path)) = Caused path
HasReadCause Caused (Err refusal.NoSymbol) = Unit {0}
HasReadCause Caused (Err (refusal.Reserved name)) = Unit {0}
HasReadCause Caused (Err (refusal.Spelling place)) = Unit {0}
HasReadCause Caused (Err refusal.OutOfMemory) = Unit {0}
HasReadCause Caused (Err refusal.LimitUnits) = Unit {0}
HasReadCause Caused (Err refusal.LimitFiles) = Unit {0}
HasReadCause Caused (Err (refusal.UnbuiltOption option)) = Unit {0}
HasReadCause Caused (Err (refusal.Unbuilt path)) = Unit {0}
