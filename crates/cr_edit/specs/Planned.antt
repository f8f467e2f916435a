-- The files that a plan replaces, and what they hold. No contract of another crate but that of planning cites it.
use Rattle.std.specs.Prelude.{ℕ, ◌≡◌, Bool, true, false, List, [], ◌∷◌, bytes_eq, Some, slice_get}
use Rattle.std.specs.List.{list_any}
use Rattle.cr_world.specs.Outside.{Files}
use Rattle.cr_edit.specs.Renames.{Rename, renamed_files}
use Rattle.cr_edit.specs.Writing.{writes_from}
use Rattle.cr_edit.specs.declared.edits.FileEdit.{FileEdit}
use Rattle.cr_edit.specs.declared.write.Write.{Write}

-- the files that are replaced
abbrev pub writes_if : Bool → List FileEdit → List Write
writes_if true edits = writes_from 0 edits
writes_if false edits = []

-- the code's writes, where files are to be replaced, and else none
abbrev pub AreWritesIf : Bool → List Write → Type 0
AreWritesIf in_place writes = (edits : List FileEdit) × (writes ≡ writes_if in_place edits)

-- no path stands twice
abbrev pub Apart : List (List ℕ) → Type 0
Apart [] = Unit {0}
Apart (p ∷ ps) = (list_any (bytes_eq p) ps ≡ false) × Apart ps

-- each edit has its file as it is after the rename
abbrev pub AreEdited : Files → Rename → List FileEdit → Type 0
AreEdited files r edits = (i : ℕ) (edit : FileEdit) → slice_get edits i ≡ Some edit → renamed_files r files edit.path ≡ Some edit.edited
