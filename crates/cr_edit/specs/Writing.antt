-- What the code's replaces leave. No contract of a public call cites it.
use Rattle.std.specs.Prelude.{ℕ, ◌+◌, ◌≡◌, ◌≢◌, ◌⊎◌, List, [], ◌∷◌, map, take, Option, Some, if◌then◌else◌, bytes_eq, slice_get}
use Rattle.cr_world.specs.Outside.{Files}
use Rattle.cr_edit.specs.Written.{fault_text}
use Rattle.cr_edit.specs.declared.edits.FileEdit.{FileEdit}
use Rattle.cr_edit.specs.declared.write.Write.{Write}

-- the files of edits, of which so many stand before these
abbrev pub writes_from : ℕ → List FileEdit → List Write
writes_from n [] = []
writes_from n (edit ∷ edits) = (record { edit = edit; fault = fault_text edit.path n }) ∷ writes_from (n + 1) edits

-- the paths that are written
abbrev pub paths_of : List Write → List (List ℕ)
paths_of writes = map (λ write. write.edit.path) writes

abbrev pub with_file : Write → Files → Files
with_file write files path = if bytes_eq path write.edit.path then Some write.edit.edited else files path

-- the files after these were replaced in turn
abbrev pub written : List Write → Files → Files
written [] files = files
written (write ∷ writes) files = written writes (with_file write files)

-- the code's writes are numbered on from the first
abbrev pub AreWrites : List Write → Type 0
AreWrites writes = (edits : List FileEdit) × (writes ≡ writes_from 0 edits)

-- all were replaced, where the files were told
abbrev pub AllReplaced : List Write → Option Files → Option Files → Type 0
AllReplaced writes before now = (files : Files) → before ≡ Some files → (told : Files) × (now ≡ Some told) × ((path : List ℕ) → told path ≡ written writes files path)

-- the first ones were replaced, and this one is new or as it was
abbrev pub IsStopped : ℕ → List Write → Write → Files → Files → Type 0
IsStopped n writes write files now =
    ((now write.edit.path ≡ written (take n writes) files write.edit.path) ⊎ (now write.edit.path ≡ Some write.edit.edited))
    × ((other : List ℕ) → other ≢ write.edit.path → now other ≡ written (take n writes) files other)

-- the one with some number stopped the others
abbrev pub Stops : List Write → Write → Option Files → Option Files → Type 0
Stops writes write before now =
    (n : ℕ) × (slice_get writes n ≡ Some write)
    × ((files : Files) → before ≡ Some files → (told : Files) × (now ≡ Some told) × IsStopped n writes write files told)
