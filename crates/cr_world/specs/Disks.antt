-- Our own rule for a disk, on which a tree of files stands: what each of its calls does to the files, where the disk tells
-- them. One that tells its files has no symbolic link.
use Rattle.std.specs.Prelude.{ℕ, ◌≡◌, ◌≢◌, List, [], ◌++◌, Option, Some, None, Bool, true, false}
use Rattle.cr_world.specs.Outside.{Files, OthersStay}
use Rattle.cr_world.specs.declared.outside.DoneEnd.{DoneEnd}
use Rattle.cr_world.specs.declared.outside.DoneEnd.TheVariants as done

-- A call on told files leaves told files, in this relation to those before it.
abbrev pub Leaves : (Files → Files → Type 0) → Option Files → Option Files → Type 0
Leaves R before now = (files : Files) → before ≡ Some files → (after : Files) × (now ≡ Some after) × R files after

-- A file that was opened has before it what stands at its path.
abbrev pub Opens : Option (List ℕ) → Option (List ℕ) → Type 0
Opens left found = (bytes : List ℕ) × (found ≡ Some bytes) × (left ≡ Some bytes)

-- no path changes
abbrev pub SameFiles : Files → Files → Type 0
SameFiles before now = (path : List ℕ) → now path ≡ before path

-- A file is made at a path at which nothing stood.
abbrev pub Makes : Bool → List ℕ → Files → Files → Type 0
Makes true path before now = (before path ≡ None) × (now path ≡ Some []) × OthersStay path before now
Makes false path before now = SameFiles before now

-- Bytes go behind those of a file; after a failure nothing is known of it.
abbrev pub Appends : DoneEnd → List ℕ → List ℕ → Files → Files → Type 0
Appends done.Done path piece before now =
    ((bytes : List ℕ) → before path ≡ Some bytes → now path ≡ Some (bytes ++ piece)) × OthersStay path before now
Appends done.Failed path piece before now = OthersStay path before now

-- what two paths hold may change
abbrev pub OtherTwoStay : (path other : List ℕ) → Files → Files → Type 0
OtherTwoStay path other before now = (third : List ℕ) → third ≢ path → third ≢ other → now third ≡ before third

-- A file goes from one path to another, in the place of what stood there.
abbrev pub Renames : DoneEnd → (from to : List ℕ) → Files → Files → Type 0
Renames done.Done from to before now = (now to ≡ before from) × (now from ≡ None) × OtherTwoStay from to before now
Renames done.Failed from to before now = SameFiles before now

-- A file that was made is taken away.
abbrev pub Removes : List ℕ → Files → Files → Type 0
Removes path before now = (now path ≡ None) × OthersStay path before now

-- A file beside another one has these bytes, or after a failure any.
abbrev pub Drafts : DoneEnd → List ℕ → List ℕ → Files → Files → Type 0
Drafts done.Done beside bytes before now = (now beside ≡ Some bytes) × OthersStay beside before now
Drafts done.Failed beside bytes before now = OthersStay beside before now
