-- The order of places in which they are shown: by the bytes of their paths, then by offset (own rule of this project).
use Rattle.std.specs.Prelude.{ℕ, List, [], Option, Some, None, slice_get}
use Rattle.std.specs.declared.cmp.Ordering.{Ordering}
use Rattle.std.specs.Ordering.{nat_cmp, ordering_then}
use Rattle.std.specs.Cmp.Lexicographic.{slice_cmp}
use Rattle.cr_base.specs.declared.token.Place.{Place}
use Rattle.cr_snapshot.specs.declared.known.KnownFile.{KnownFile}

abbrev pub path_or : Option KnownFile → List ℕ
path_or None = []
path_or (Some file) = file.path

-- the path of a place
abbrev pub path_of : List KnownFile → Place → List ℕ
path_of files p = path_or (slice_get files p.path.0)

abbrev pub shown_cmp : List KnownFile → Place → Place → Ordering
shown_cmp files p q = ordering_then (slice_cmp nat_cmp (path_of files p) (path_of files q)) (nat_cmp p.offset q.offset)
