-- How many files a snapshot within its limits holds.
use Rattle.std.proofs.Common.{◌≡◌, ℕ, ◌+◌, ◌<◌, ◌≤◌, ◌^◌, Bool, true, false, List, [], ◌∷◌, ◌++◌, length, refl, subst, arith, Option, Some, None}
use Rattle.std.specs.List.{AllByRecursion}
use Rattle.std.proofs.lemmas.List.Sums.{sum_by-cons}
use Rattle.std.proofs.lemmas.Bool.Decides.{nat_tests}
use Rattle.cr_snapshot.specs.declared.header.Header.{Header}
use Rattle.cr_snapshot.specs.BuiltIns.{text_of}
use Rattle.cr_snapshot.specs.declared.header.Header.TheVariants as header
use Rattle.std.specs.Prelude.{if◌then◌else◌, bytes_eq, nat_lt}
use Rattle.cr_snapshot.specs.declared.known.KnownFile.{KnownFile}
use Rattle.cr_snapshot.specs.Totals.{AreOf}
use Rattle.cr_snapshot.specs.IncludeSearch.{is_apart}
use Rattle.cr_snapshot.specs.Files.{Present, told, finding_from, size, counted, known_paths, apart_paths, IsWithin, built_ins, built_in}

pub length-parts : (files : List KnownFile) → length files ≡ known_paths files + apart_paths files
length-parts [] = refl
length-parts (file ∷ files) =
    let known = sum_by-cons (λ file. counted 1 file) file files in
    let beside = sum_by-cons (λ file. if is_apart file.path then 1 else 0) file files in
    rw (known, beside) (by (is_apart file.path) (length-parts files))
  where
    by : (b : Bool) → length files ≡ known_paths files + apart_paths files
        → length (file ∷ files) ≡ ((if b then 0 else 1) + known_paths files) + ((if b then 1 else 0) + apart_paths files)
    by true h = omega arith
    by false h = omega arith

pub length-within : (files : List KnownFile) → IsWithin files → length files < 2 ^ 32
length-within files within =
    let parts = length-parts files in
    let known = within.known in
    let beside = within.apart in
    omega arith

not_over : (n : ℕ) → nat_lt 16777216 n ≡ false → n ≤ 16777216
not_over n e = grind (arith, nat_tests)

header_small : (h : Header) → size (built_in h).found ≤ 16777216
unfolding text_of
header_small header.Stddef = not_over _ refl
header_small header.Stdint = not_over _ refl
header_small header.Stdbool = not_over _ refl
header_small header.Stdarg = not_over _ refl
header_small header.Limits = not_over _ refl
header_small header.Errno = not_over _ refl
header_small header.String = not_over _ refl
header_small header.Stdlib = not_over _ refl
header_small header.Stdio = not_over _ refl
header_small header.Assert = not_over _ refl

sizes_small : AllByRecursion (λ file. size file.found ≤ 16777216) built_ins
sizes_small = (header_small _, (header_small _, (header_small _, (header_small _, (header_small _, (header_small _, (header_small _, (header_small _, (header_small _, (header_small _, tt))))))))))

-- the file that is told is small
pub told-small : (path : List ℕ) (files : List KnownFile) (m n : ℕ) (bytes : List ℕ) → AllByRecursion (λ file. size file.found ≤ 16777216) files → finding_from m path files ≡ Present n bytes → length bytes ≤ 16777216
told-small path [] m n bytes h e = absurd (let no : ⊥ = cc in no)
told-small path (f ∷ files) m n bytes h e = by (bytes_eq path f.path) f.found h.0 e (told-small path files (m + 1) n bytes h.1)
  where
    by : (b : Bool) (o : Option (List ℕ)) → size o ≤ 16777216 → (if b then told m o else finding_from (m + 1) path files) ≡ Present n bytes → (finding_from (m + 1) path files ≡ Present n bytes → length bytes ≤ 16777216) → length bytes ≤ 16777216
    by true None u e k = absurd (let no : ⊥ = cc in no)
    by true (Some bs) u e k = let same : bs ≡ bytes = cc in subst (λ x. length x ≤ 16777216) same u
    by false None u e k = k e
    by false (Some bs) u e k = k e

pub small-push : (files : List KnownFile) (file : KnownFile) → AllByRecursion (λ file. size file.found ≤ 16777216) files → size file.found ≤ 16777216 → AllByRecursion (λ file. size file.found ≤ 16777216) (files ++ file ∷ [])
small-push [] file h k = (k, tt)
small-push (f ∷ files) file h k = (h.0, small-push files file h.1 k)

pub built_ins-within : IsWithin built_ins
built_ins-within = record { present = omega arith; bytes = omega arith; known = omega arith; apart = omega arith; sizes = sizes_small }

pub built_ins-totals : AreOf (record { paths = 0; present = 0; bytes = 0 }) built_ins
built_ins-totals = record { paths = omega arith; present = omega arith; bytes = omega arith }
