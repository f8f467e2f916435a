-- Files that no include names.
use Rattle.std.proofs.Common.{◌≡◌, ℕ, ◌+◌, ◌<◌, Bool, true, false, cond, not, List, [], ◌∷◌, length, refl, ap, arith, Some, None, nat_lt}
use Rattle.std.specs.Prelude.{bytes_eq, position, if◌then◌else◌}
use Rattle.std.specs.List.{position_or_len}
use Rattle.std.proofs.lemmas.Bool.Decides.{nat_tests}
use Rattle.cr_base.specs.declared.unit.Unit.{Unit}
use Rattle.cr_macros.specs.Tokens.{Text}
use Rattle.cr_snapshot.specs.declared.known.KnownFile.{KnownFile}
use Rattle.cr_snapshot.specs.Files.{Finding, Present, Absent, Unknown, told, finding, finding_from}
use Rattle.cr_phase4.specs.Tasks.{Needs, State, Ends}
use Rattle.cr_phase4.specs.Lines.{place_in}
use Rattle.cr_phase4.specs.Search.{Finds, Misses, Lacks, number_among, world_of}
use Rattle.cr_phase4.specs.Directives.{looks}
use Rattle.cr_phase4.specs.Preprocessing.{does_first_file, does_file, levels}

-- the place among files, or their number
abbrev place : Text → List KnownFile → ℕ
place path files = position_or_len (λ file. bytes_eq path file.path) files

not_found : (path : Text) (files : List KnownFile) (n : ℕ) → ¬ (place path files < length files) → finding_from n path files ≡ Unknown
not_found path [] n h = refl
not_found path (f ∷ files) n h = by (bytes_eq path f.path) refl (not_found path files (n + 1)) h
  where
    by : (b : Bool) → bytes_eq path f.path ≡ b → (¬ (place path files < length files) → finding_from (n + 1) path files ≡ Unknown) → ¬ (place path (f ∷ files) < length (f ∷ files))
        → (if b then told n f.found else finding_from (n + 1) path files) ≡ Unknown
    by true e k h = absurd (h (let z : place path (f ∷ files) ≡ 0 = ap (λ b. cond (not b) (1 + place path files) 0) e in omega (arith, z)))
    by false e k h = k (λ l. h (let z : place path (f ∷ files) ≡ 1 + place path files = ap (λ b. cond (not b) (1 + place path files) 0) e in omega (arith, z, l)))

-- a path without a number is unknown
pub unknown_path : (path : Text) (files : List KnownFile) → position (λ file. bytes_eq path file.path) files ≡ None → finding path files ≡ Unknown
unknown_path path files e = not_found path files 0 (by (nat_lt (place path files) (length files)) refl e)
  where
    by : (b : Bool) → nat_lt (place path files) (length files) ≡ b → (if b then Some (place path files) else None) ≡ None → ¬ (place path files < length files)
    by true t e = absurd (let no : ⊥ = cc in no)
    by false t e = λ l. let no : ⊥ = grind (arith, nat_tests) in no

-- the number of a path is its place
pub number_is : (path : Text) (files : List KnownFile) (n : ℕ) → position (λ file. bytes_eq path file.path) files ≡ Some n → number_among path files ≡ n
number_is path files n e = by (nat_lt (place path files) (length files)) e
  where
    by : (b : Bool) → (if b then Some (place path files) else None) ≡ Some n → place path files ≡ n
    by true e = cc
    by false e = absurd (let no : ⊥ = cc in no)

-- an unknown file is wanted
pub first_is_wanted : (files : List KnownFile) (u : Unit) (path : Text) (s : State) → finding path files ≡ Unknown → does_first_file (world_of files) u path s ≡ Ends (Needs (path ∷ [])) []
first_is_wanted files u path s e = by (finding path files) e where
  by : (f : Finding) → f ≡ Unknown
      → looks (world_of files) (does_file (world_of files) u levels) (place_in (number_among path files) 0) (path ∷ []) (elim f [ Present n bytes ↦ Finds path n bytes | Absent ↦ Misses | Unknown ↦ Lacks (path ∷ []) ]) s
      ≡ Ends (Needs (path ∷ [])) []
  by Unknown e = refl
  by Absent e = absurd (let no : ⊥ = cc in no)
  by (Present n bytes) e = absurd (let no : ⊥ = cc in no)
