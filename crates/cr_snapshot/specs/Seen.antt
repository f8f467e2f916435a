-- The answers of a snapshot as the findings that they stand for.
use Rattle.std.specs.Prelude.{ℕ, List, Option, Vec}
use Rattle.std.specs.declared.alloc.Global.{Global}
use Rattle.std.specs.Option.{option_map}
use Rattle.cr_snapshot.specs.declared.known.KnownFile.{KnownFile}
use Rattle.cr_snapshot.specs.declared.snapshot.Found.{Found}
use Rattle.cr_snapshot.specs.declared.snapshot.Found.TheVariants as found
use Rattle.cr_snapshot.specs.Files.{Finding, Present, Absent, Unknown}

abbrev pub finding_of : Found → Finding
finding_of (found.Known n bytes) = Present n.0 bytes.now
finding_of found.Absent = Absent
finding_of found.Unknown = Unknown

-- a path with what was found at it, as a known file
abbrev pub file_of : List ℕ → Option (Vec ℕ Global) → KnownFile
file_of path found = record { path = path; found = option_map (λ bytes. bytes.items) found }
