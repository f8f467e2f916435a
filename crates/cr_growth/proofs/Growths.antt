-- What units come to know is one, and nothing that was known is lost.
use Rattle.std.proofs.Common.{◌≡◌, ◌⊎◌, ℕ, Bool, true, false, List, [], ◌∷◌, ◌++◌, Option, Some, None, if◌then◌else◌, refl, sym, subst, ◌∙◌, inl, inr}
use Rattle.std.specs.Option.{option_and_then}
use Rattle.cr_base.specs.declared.unit.Unit.{Unit as TranslationUnit}
use Rattle.cr_world.specs.Outside.{Files}
use Rattle.cr_snapshot.specs.Files.{Finding, Present, Absent, Unknown, finding, is_over}
use Rattle.cr_snapshot.specs.IncludeSearch.{is_apart}
use Rattle.cr_snapshot.specs.declared.known.KnownFile.{KnownFile}
use Rattle.cr_phase4.specs.PreprocessingRun.{Agrees, SnapshotsAgree}
use Rattle.cr_phase4.specs.Search.{World, world_of}
use Rattle.cr_growth.specs.Growth.{file_at, with_file, with_path, is_there, unless_there, with_wanted, wanted, are_settled, after_units, after_wave, IsGrown, settles, passes, grows}

true_false : (b : Bool) → b ≡ true → b ≡ false → ⊥
true_false b t f = cc

none_some : (o : Option (List KnownFile)) (x : List KnownFile) → o ≡ None → o ≡ Some x → ⊥
none_some o x n s = cc

some_one : (o : Option (List KnownFile)) (x y : List KnownFile) → o ≡ Some x → o ≡ Some y → x ≡ y
some_one o x y a b = cc

pub one : (tree : Files) (units : List TranslationUnit) (files : List KnownFile) (a b : Option (List KnownFile)) → IsGrown tree units files a → IsGrown tree units files b → a ≡ b
one tree units files a b (settles s) (settles t) = refl
one tree units files a b (settles s) (passes t m) = absurd (true_false (are_settled files units) s t)
one tree units files a b (settles s) (grows t m g) = absurd (true_false (are_settled files units) s t)
one tree units files a b (passes s m) (settles t) = absurd (true_false (are_settled files units) t s)
one tree units files a b (passes s m) (passes t k) = refl
one tree units files a b (passes s m) (grows {more = more} t k g) = absurd (none_some (after_wave tree units files) more m k)
one tree units files a b (grows s m g) (settles t) = absurd (true_false (are_settled files units) t s)
one tree units files a b (grows {more = more} s m g) (passes t k) = absurd (none_some (after_wave tree units files) more k m)
one tree units files a b (grows {more = more} s m g) (grows {more = others} t k h) =
    one tree units more a b g (subst (λ f. IsGrown tree units f b) (some_one (after_wave tree units files) others more k m) h)

-- ---- what was known stays known

pub agrees_same : (w : World) → Agrees w w
agrees_same w = record { known = λ path. inr (refl, refl) }

agree_on : (w v u : World) (path : List ℕ) → (w.find path ≡ Unknown) ⊎ ((v.find path ≡ w.find path) × (v.number path ≡ w.number path)) → (v.find path ≡ Unknown) ⊎ ((u.find path ≡ v.find path) × (u.number path ≡ v.number path))
    → (w.find path ≡ Unknown) ⊎ ((u.find path ≡ w.find path) × (u.number path ≡ w.number path))
agree_on w v u path (inl h) more = inl h
agree_on w v u path (inr f) (inl h) = inl (sym f.0 ∙ h)
agree_on w v u path (inr f) (inr g) = inr (g.0 ∙ f.0, g.1 ∙ f.1)

pub agrees_then : (w v u : World) → Agrees w v → Agrees v u → Agrees w u
agrees_then w v u a b = record { known = λ path. agree_on w v u path (a.known path) (b.known path) }

abbrev pub IsLater : List KnownFile → List KnownFile → Type 0
IsLater files more = Agrees (world_of files) (world_of more)

later_same : (files more : List KnownFile) → Some files ≡ Some more → IsLater files more
later_same files more e = let same : files ≡ more = cc in subst (IsLater files) same (agrees_same (world_of files))

unless_over : (b : Bool) (x y : List KnownFile) → (if b then None else Some x) ≡ Some y → x ≡ y
unless_over true x y e = cc
unless_over false x y e = cc

file_later : SnapshotsAgree → (file : KnownFile) (files more : List KnownFile) → with_file file files ≡ Some more → IsLater files more
file_later law file files more e = subst (IsLater files) (unless_over (is_over files file) (files ++ file ∷ []) more e) (law files file)

apart_later : SnapshotsAgree → (b : Bool) (file : KnownFile) (files more : List KnownFile) → (if b then Some files else with_file file files) ≡ Some more → IsLater files more
apart_later law true file files more e = later_same files more e
apart_later law false file files more e = file_later law file files more e

path_later : SnapshotsAgree → (tree : Files) (path : List ℕ) (files more : List KnownFile) (found : Finding) → with_path tree path files found ≡ Some more → IsLater files more
path_later law tree path files more (Present n bytes) e = later_same files more e
path_later law tree path files more Absent e = later_same files more e
path_later law tree path files more Unknown e = apart_later law (is_apart path) (file_at tree path) files more e

-- a step that gave something, and then another
both_some : (o : Option (List KnownFile)) (f : List KnownFile → Option (List KnownFile)) (more : List KnownFile) → option_and_then f o ≡ Some more → (mid : List KnownFile) × (o ≡ Some mid) × (f mid ≡ Some more)
both_some None f more e = absurd (none_some None more refl e)
both_some (Some mid) f more e = (mid, refl, e)

unless_later : (b : Bool) (files more : List KnownFile) (other : Option (List KnownFile)) → (other ≡ Some more → IsLater files more) → (if b then Some files else other) ≡ Some more → IsLater files more
unless_later true files more other h e = later_same files more e
unless_later false files more other h e = h e

wanted_later : SnapshotsAgree → (tree : Files) (paths : List (List ℕ)) (files more : List KnownFile) → with_wanted tree paths files ≡ Some more → IsLater files more
wanted_later law tree [] files more e = later_same files more e
wanted_later law tree (path ∷ paths) files more e =
    let b = both_some (with_path tree path files (finding path files)) (unless_there path (with_wanted tree paths)) more e in
    agrees_then (world_of files) (world_of b.0) (world_of more) (path_later law tree path files b.0 (finding path files) b.1)
    (unless_later (is_there (finding path b.0)) b.0 more (with_wanted tree paths b.0) (λ h. wanted_later law tree paths b.0 more h) b.2)

pub units_later : SnapshotsAgree → (tree : Files) (wave : List KnownFile) (units : List TranslationUnit) (files more : List KnownFile) → after_units tree wave units files ≡ Some more → IsLater files more
units_later law tree wave [] files more e = later_same files more e
units_later law tree wave (u ∷ us) files more e =
    let b = both_some (with_wanted tree (wanted wave u) files) (after_units tree wave us) more e in
    agrees_then (world_of files) (world_of b.0) (world_of more) (wanted_later law tree (wanted wave u) files b.0 b.1) (units_later law tree wave us b.0 more b.2)

grown_to : SnapshotsAgree → (tree : Files) (units : List TranslationUnit) (files : List KnownFile) (end : Option (List KnownFile)) → IsGrown tree units files end → (more : List KnownFile) → end ≡ Some more → IsLater files more
grown_to law tree units files end (settles s) more e = later_same files more e
grown_to law tree units files end (passes s m) more e = absurd (none_some None more refl e)
grown_to law tree units files end (grows {more = mid} s m g) more e =
    agrees_then (world_of files) (world_of mid) (world_of more) (units_later law tree files units files mid m) (grown_to law tree units mid end g more e)

pub growth_later : SnapshotsAgree → (tree : Files) (units : List TranslationUnit) (files more : List KnownFile) → IsGrown tree units files (Some more) → IsLater files more
growth_later law tree units files more g = grown_to law tree units files (Some more) g more refl
