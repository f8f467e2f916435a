-- Our own rule for the outside: what a tree of files and a sink of bytes mean, and when a call may fail.
use Rattle.std.specs.Prelude.{ℕ, ◌+◌, ◌-◌, ◌^◌, ◌<◌, ◌≤◌, ◌≡◌, ◌≢◌, ◌⊎◌, min, List, [], ◌++◌, length, take, Option, Some, None}
use Rattle.std.specs.List.{All}
use Rattle.cr_world.specs.declared.outside.ReadEnd.{ReadEnd}
use Rattle.cr_world.specs.declared.outside.ReadEnd.TheVariants as read
use Rattle.cr_world.specs.declared.outside.DoneEnd.{DoneEnd}
use Rattle.cr_world.specs.declared.outside.DoneEnd.TheVariants as done

-- a map from the bytes of a path to the bytes of a file
abbrev pub Files : Type 0
Files = List ℕ → Option (List ℕ)

-- a number for each path
abbrev pub Counts : Type 0
Counts = List ℕ → ℕ

-- a call of `read`: its path, and the bytes that it handed over
abbrev pub Reading : Type 0
Reading = List ℕ × List ℕ

-- The reads went on by some, of paths of which this holds.
pub record OnlyRead (May : List ℕ → Type 0) (before now : List Reading) : Type 0 where
  pub more : List Reading
  pub gained : now ≡ before ++ more
  pub each : All (λ reading. May reading.0) more

-- A count of faults has risen, or stands at its type's end.
abbrev pub Rose : ℕ → ℕ → Type 0
Rose before now = min (before + 1) (2 ^ 64 - 1) ≤ now

-- no count of the list falls
abbrev pub NoneFell : Counts → Counts → Type 0
NoneFell before now = (path : List ℕ) → before path ≤ now path

-- no count of the list changes
abbrev pub AllStay : Counts → Counts → Type 0
AllStay before now = (path : List ℕ) → now path ≡ before path

-- Files stay, and so do the counts of failed replaces; no count of failed reads falls, and no replace is asked for.
pub record ReadsOnly (files files' : Option Files) (reads reads' replaces replaces' : Counts) (replacings replacings' : List (List ℕ)) : Type 0 where
  pub same : files' ≡ files
  pub later : NoneFell reads reads'
  pub stay : AllStay replaces replaces'
  pub none : replacings' ≡ replacings

-- what a read hands over, whatever the tree tells
abbrev pub HandsOver : ReadEnd → ℕ → List ℕ → Type 0
HandsOver read.Bytes max into = length into ≤ max
HandsOver read.Absent max into = into ≡ []
HandsOver read.Long max into = into ≡ []
HandsOver read.Failed max into = into ≡ []
HandsOver read.OutOfMemory max into = into ≡ []

-- what the end of a read says of the file that stands at its path
abbrev pub SaysOfFile : ReadEnd → ℕ → List ℕ → Option (List ℕ) → Type 0
SaysOfFile read.Bytes max into found = found ≡ Some into
SaysOfFile read.Absent max into found = found ≡ None
SaysOfFile read.Long max into found = (bytes : List ℕ) × (found ≡ Some bytes) × (max < length bytes)
SaysOfFile read.Failed max into found = Unit {0}
SaysOfFile read.OutOfMemory max into found = Unit {0}

-- Every path but this one holds what it held.
abbrev pub OthersStay : List ℕ → Files → Files → Type 0
OthersStay path before now = (other : List ℕ) → other ≢ path → now other ≡ before other

-- what the end of a replace says of the files before and after it
abbrev pub Replaces : DoneEnd → List ℕ → List ℕ → Files → Files → Type 0
Replaces done.Done path bytes before now = (now path ≡ Some bytes) × OthersStay path before now
Replaces done.Failed path bytes before now = ((now path ≡ Some bytes) ⊎ (now path ≡ before path)) × OthersStay path before now

-- A replace of told files leaves told files.
abbrev pub ReplaceTells : DoneEnd → List ℕ → List ℕ → Option Files → Option Files → Type 0
ReplaceTells end path bytes before now = (files : Files) → before ≡ Some files → (after : Files) × (now ≡ Some after) × Replaces end path bytes files after

-- what the end of a write says of the bytes before and after it
abbrev pub Gains : DoneEnd → List ℕ → List ℕ → List ℕ → Type 0
Gains done.Done piece before now = now ≡ before ++ piece
Gains done.Failed piece before now = (n : ℕ) × (now ≡ before ++ take n piece)

-- A write to told bytes leaves told bytes.
abbrev pub WriteTells : DoneEnd → List ℕ → Option (List ℕ) → Option (List ℕ) → Type 0
WriteTells end piece before now = (bytes : List ℕ) → before ≡ Some bytes → (after : List ℕ) × (now ≡ Some after) × Gains end piece bytes after
