-- A list of known files with one more, and the numbers that are told.
use Rattle.std.proofs.Common.{◌≡◌, ℕ, zero, suc, ◌+◌, ◌<◌, Bool, true, false, List, [], ◌∷◌, ◌++◌, length, Option, Some, None, slice_get, refl, sym, ap, ◌∙◌, subst, arith}
use Rattle.std.specs.Prelude.{bytes_eq, if◌then◌else◌}
use Rattle.std.proofs.lemmas.Slice.Eq.{bytes_eq-Decides}
use Rattle.cr_snapshot.specs.declared.known.KnownFile.{KnownFile}
use Rattle.cr_snapshot.specs.Files.{Unknown, Present, told, finding_from, TellsTheNewFile, StaysKnown, NumbersItsPath}
use Rattle.cr_snapshot.proofs.Looked.{told-known}

pub stays_from : (path : List ℕ) (files : List KnownFile) (file : KnownFile) (n : ℕ) → ¬ (finding_from n path files ≡ Unknown)
    → finding_from n path (files ++ file ∷ []) ≡ finding_from n path files
stays_from path [] file n known = absurd (known refl)
stays_from path (f ∷ files) file n known = by (bytes_eq path f.path) (λ h. stays_from path files file (n + 1) h) known
  where
    by : (b : Bool) → (¬ (finding_from (n + 1) path files ≡ Unknown) → finding_from (n + 1) path (files ++ file ∷ []) ≡ finding_from (n + 1) path files)
        → ¬ ((if b then told n f.found else finding_from (n + 1) path files) ≡ Unknown)
        → (if b then told n f.found else finding_from (n + 1) path (files ++ file ∷ [])) ≡ (if b then told n f.found else finding_from (n + 1) path files)
    by true rest h = refl
    by false rest h = rest h

pub tells_from : (files : List KnownFile) (file : KnownFile) (n : ℕ) → finding_from n file.path files ≡ Unknown
    → finding_from n file.path (files ++ file ∷ []) ≡ told (n + length files) file.found
tells_from [] file n unknown =
    let same : bytes_eq file.path file.path ≡ true = (bytes_eq-Decides file.path file.path).1 refl in
    let z : n + 0 ≡ n = omega arith in
    rw (same, z) refl
tells_from (f ∷ files) file n unknown = by (bytes_eq file.path f.path) (λ h. tells_from files file (n + 1) h) unknown
  where
    by : (b : Bool) → (finding_from (n + 1) file.path files ≡ Unknown → finding_from (n + 1) file.path (files ++ file ∷ []) ≡ told (n + 1 + length files) file.found)
        → (if b then told n f.found else finding_from (n + 1) file.path files) ≡ Unknown
        → (if b then told n f.found else finding_from (n + 1) file.path (files ++ file ∷ [])) ≡ told (n + length (f ∷ files)) file.found
    by true rest h = absurd (told-known n f.found h)
    by false rest h =
        let long : n + 1 + length files ≡ n + length (f ∷ files) = omega arith in
        rest h ∙ ap (λ m. told m file.found) long

pub stays : StaysKnown
stays path files file known = stays_from path files file 0 known

pub tells : TellsTheNewFile
tells files file unknown =
    let z : 0 + length files ≡ length files = omega arith in
    tells_from files file 0 unknown ∙ ap (λ m. told m file.found) z

-- the file with this number, among files whose numbers begin with m
abbrev pub Numbered : ℕ → List ℕ → List KnownFile → ℕ → List ℕ → Type 0
Numbered m path files n bytes = (i : ℕ) × (n ≡ m + i) × (i < length files) × (slice_get files i ≡ Some (record { path = path; found = Some bytes }))

present-is : (m n : ℕ) (b bytes : List ℕ) → Present m b ≡ Present n bytes → (m ≡ n) × (b ≡ bytes)
present-is m n b bytes e = (cc, cc)

numbers_here : (path : List ℕ) (f : KnownFile) (files : List KnownFile) (m n : ℕ) (bytes : List ℕ) → path ≡ f.path → (o : Option (List ℕ)) → f.found ≡ o
    → told m o ≡ Present n bytes → Numbered m path (f ∷ files) n bytes
numbers_here path f files m n bytes same None u e = let no : ⊥ = cc in absurd no
numbers_here path f files m n bytes same (Some b) u e =
    let is = present-is m n b bytes e in
    let here : f.found ≡ Some bytes = u ∙ ap Some is.1 in
    let file : ◌≡◌ {A = KnownFile} f (record { path = path; found = Some bytes }) =
    ap (λ p. record { path = p; found = f.found }) (sym same) ∙ ap (λ o. record { path = path; found = o }) here in
    (0, omega (arith, is.0), omega arith, ap Some file)

numbers_from : (path : List ℕ) (files : List KnownFile) (m n : ℕ) (bytes : List ℕ) → finding_from m path files ≡ Present n bytes → Numbered m path files n bytes
numbers_from path [] m n bytes e = let no : ⊥ = cc in absurd no
numbers_from path (f ∷ files) m n bytes e = by (bytes_eq path f.path) refl (λ h. numbers_from path files (m + 1) n bytes h) e
  where
    by : (b : Bool) → bytes_eq path f.path ≡ b → (finding_from (m + 1) path files ≡ Present n bytes → Numbered (m + 1) path files n bytes)
        → (if b then told m f.found else finding_from (m + 1) path files) ≡ Present n bytes → Numbered m path (f ∷ files) n bytes
    by true t rest h = numbers_here path f files m n bytes ((bytes_eq-Decides path f.path).0 t) f.found refl h
    by false t rest h =
        let (i, at, inside, is) = rest h in
        (suc i, omega (arith, at), omega (arith, inside), is)

pub numbers : NumbersItsPath
numbers path files n bytes e =
    let (i, at, inside, is) = numbers_from path files 0 n bytes e in
    let same : i ≡ n = omega (arith, at) in
    (subst (λ k. k < length files) same inside, subst (λ k. slice_get files k ≡ Some (record { path = path; found = Some bytes })) same is)
