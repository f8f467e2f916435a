-- The sums that a snapshot keeps beside its files.
use Rattle.std.specs.Prelude.{◌≡◌, ◌≤◌, ◌+◌, Bool, ◌||◌, List, nat_lt, Option, Some, None, if◌then◌else◌}
use Rattle.cr_snapshot.specs.declared.known.KnownFile.{KnownFile}
use Rattle.cr_snapshot.specs.declared.totals.Totals.{Totals}
use Rattle.cr_snapshot.specs.Files.{known_paths, present_files, present_bytes, counted, presence, size}

pub record AreOf (totals : Totals) (files : List KnownFile) : Type 0 where
  pub paths : totals.paths ≡ known_paths files
  pub present : totals.present ≡ present_files files
  pub bytes : totals.bytes ≡ present_bytes files

pub record AreSmall (totals : Totals) : Type 0 where
  pub paths : totals.paths ≤ 4194304
  pub present : totals.present ≤ 65536
  pub bytes : totals.bytes ≤ 536870912

-- with one more file
abbrev pub added : Totals → KnownFile → Totals
added totals file = record {
  paths = totals.paths + counted 1 file;
  present = totals.present + counted (presence file.found) file;
  bytes = totals.bytes + counted (size file.found) file;
}

-- one of the sums is over its limit
abbrev pub are_large : Totals → Bool
are_large totals = nat_lt 65536 totals.present || nat_lt 536870912 totals.bytes || nat_lt 4194304 totals.paths

-- the sums with one more file, if no limit is passed
abbrev pub totals_with : Totals → KnownFile → Option Totals
totals_with totals file =
    if nat_lt 16777216 (size file.found) then None
    else if are_large (added totals file) then None else Some (added totals file)
