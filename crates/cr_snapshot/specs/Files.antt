-- The files that are known, as a list in the order of their numbers: own rule of this project.
use Rattle.std.specs.Prelude.{◌≡◌, ◌≤◌, ◌<◌, ◌+◌, slice_get, ℕ, Bool, ◌||◌, List, [], ◌∷◌, ◌++◌, length, map, sum_by, nat_lt, bytes_eq, Option, Some, None, if◌then◌else◌}
use Rattle.std.specs.List.{AllByRecursion}
use Rattle.cr_base.specs.Path.{apart_path}
use Rattle.cr_snapshot.specs.declared.known.KnownFile.{KnownFile}
use Rattle.cr_snapshot.specs.declared.header.Header.{Header}
use Rattle.cr_snapshot.specs.BuiltIns.{headers, name_of, text_of}
use Rattle.cr_snapshot.specs.IncludeSearch.{is_apart}

-- what is known of a path: the number of a file that is there and its bytes, that none is there, or nothing
pub data Finding : Type 0 where
  Present : ℕ → List ℕ → Finding
  Absent : Finding
  Unknown : Finding

abbrev pub told : ℕ → Option (List ℕ) → Finding
told n None = Absent
told n (Some bytes) = Present n bytes

-- the same among files whose numbers begin with n
abbrev pub finding_from : ℕ → List ℕ → List KnownFile → Finding
finding_from n path [] = Unknown
finding_from n path (file ∷ files) = if bytes_eq path file.path then told n file.found else finding_from (n + 1) path files

abbrev pub finding : List ℕ → List KnownFile → Finding
finding path files = finding_from 0 path files

-- a built-in header as a known file
abbrev pub built_in : Header → KnownFile
built_in header = record { path = apart_path (name_of header); found = Some (text_of header) }

-- what is known at first
abbrev pub built_ins : List KnownFile
built_ins = map built_in headers

-- one for a file that is there
abbrev pub presence : Option (List ℕ) → ℕ
presence None = 0
presence (Some bytes) = 1

abbrev pub size : Option (List ℕ) → ℕ
size None = 0
size (Some bytes) = length bytes

-- a measure of a file, for one that stands beside all files nothing
abbrev pub counted : ℕ → KnownFile → ℕ
counted measure file = if is_apart file.path then 0 else measure

-- how many paths are known, how many of them are there, and their bytes together: those beside all files aside
abbrev pub known_paths : List KnownFile → ℕ
known_paths files = sum_by (λ file. counted 1 file) files

abbrev pub present_files : List KnownFile → ℕ
present_files files = sum_by (λ file. counted (presence file.found) file) files

abbrev pub present_bytes : List KnownFile → ℕ
present_bytes files = sum_by (λ file. counted (size file.found) file) files

-- how many known paths stand beside all files
abbrev pub apart_paths : List KnownFile → ℕ
apart_paths files = sum_by (λ file. if is_apart file.path then 1 else 0) files

-- a file can't be made known beside these: it is too large, or there would be too many files, bytes or paths
abbrev pub is_over : List KnownFile → KnownFile → Bool
is_over files file =
    nat_lt 16777216 (size file.found)
    || nat_lt 65536 (present_files (files ++ file ∷ []))
    || nat_lt 536870912 (present_bytes (files ++ file ∷ []))
    || nat_lt 4194304 (known_paths (files ++ file ∷ []))

-- what every snapshot keeps
pub record IsWithin (files : List KnownFile) : Type 0 where
  pub present : present_files files ≤ 65536
  pub bytes : present_bytes files ≤ 536870912
  pub known : known_paths files ≤ 4194304
  pub apart : apart_paths files ≤ 65536
  pub sizes : AllByRecursion (λ file. size file.found ≤ 16777216) files

-- A file whose path was unknown is told by its path afterwards, with the next number.
abbrev pub TellsTheNewFile : Type 0
TellsTheNewFile = (files : List KnownFile) (file : KnownFile) → finding file.path files ≡ Unknown
    → finding file.path (files ++ file ∷ []) ≡ told (length files) file.found

-- What is known of a path stays, with its number, whatever is made known.
abbrev pub StaysKnown : Type 0
StaysKnown = (path : List ℕ) (files : List KnownFile) (file : KnownFile) → ¬ (finding path files ≡ Unknown)
    → finding path (files ++ file ∷ []) ≡ finding path files

-- The number of a file that is told is that of a known path, which holds these bytes.
abbrev pub NumbersItsPath : Type 0
NumbersItsPath = (path : List ℕ) (files : List KnownFile) (n : ℕ) (bytes : List ℕ) → finding path files ≡ Present n bytes
    → (n < length files) × (slice_get files n ≡ Some (record { path = path; found = Some bytes }))
