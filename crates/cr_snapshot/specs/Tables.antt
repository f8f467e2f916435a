-- How a snapshot keeps its files: each under the bytes of its path.
use Rattle.std.specs.Prelude.{◌≡◌, ℕ, List, map}
use Rattle.cr_snapshot.specs.declared.known.KnownFile.{KnownFile}

abbrev pub IsKeyed : {V : Type 0} → (V → List ℕ) → List (V × KnownFile) → Type 0
IsKeyed bytes_of entries = map (λ entry. bytes_of entry.0) entries ≡ map (λ entry. entry.1.path) entries
