-- The edits that the code makes of the files that it has read. No contract of a public call cites it.
use Rattle.std.specs.Prelude.{ℕ, ◌<◌, Bool, List, [], ◌∷◌, length, if◌then◌else◌, nat_lt, slice_index_or}
use Rattle.cr_base.specs.Substitution.{substituted}
use Rattle.cr_run.specs.Table.{RisesIn}
use Rattle.cr_run.specs.declared.survey.Surveyed.{Surveyed}
use Rattle.cr_run.specs.declared.edits.FileEdit.{FileEdit}

-- the places of a file, of those of all files by their numbers
abbrev pub offsets_of : List (List ℕ) → Surveyed → List ℕ
offsets_of places s = slice_index_or places s.number []

abbrev pub edit_of_entry : List (List ℕ) → List ℕ → List ℕ → List ℕ × Surveyed → FileEdit
edit_of_entry places old new e = record { path = e.0; offsets = offsets_of places e.1; edited = substituted (offsets_of places e.1) (length old) new e.1.bytes }

abbrev pub has_places : List (List ℕ) → List ℕ × Surveyed → Bool
has_places places e = nat_lt 0 (length (offsets_of places e.1))

-- the edits of the files in which the old name stands
abbrev pub edits_of : List (List ℕ) → List ℕ → List ℕ → List (List ℕ × Surveyed) → List FileEdit
edits_of places old new [] = []
edits_of places old new (e ∷ es) = if has_places places e then edit_of_entry places old new e ∷ edits_of places old new es else edits_of places old new es

-- each file has places, of which this holds
abbrev pub AllPlaced : (List ℕ → Surveyed → List ℕ → Type 0) → List (List ℕ) → List (List ℕ × Surveyed) → Type 0
AllPlaced P places [] = Unit {0}
AllPlaced P places (e ∷ es) = (e.1.number < length places) × P e.0 e.1 (offsets_of places e.1) × AllPlaced P places es

-- the places of each file rise
abbrev pub AllRise : List (List ℕ) → List ℕ → List (List ℕ × Surveyed) → Type 0
AllRise places old es = AllPlaced (RisesIn old) places es
