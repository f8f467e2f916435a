-- What it means that a renaming keeps the meaning of units.
use Rattle.std.specs.Prelude.{ℕ, ◌+◌, ◌≡◌, ◌↔◌, Bool, true, false, List, [], ◌∷◌, length, map, slice_get, Some, Contains, nat_eq, option_map}
use Rattle.std.specs.List.{filter}
use Rattle.cr_base.specs.Substitution.{substituted}
use Rattle.cr_base.specs.declared.token.Place.{Place}
use Rattle.cr_base.specs.declared.token.Origin.{Origin}
use Rattle.cr_base.specs.declared.token.Origin.TheVariants.{At, Made}
use Rattle.cr_base.specs.declared.unit.Unit.{Unit}
use Rattle.cr_snapshot.specs.declared.known.KnownFile.{KnownFile}
use Rattle.cr_macros.specs.Tokens.{Text, Token}
use Rattle.cr_expand_law.specs.Renaming.{Renaming, shifted_origin}
use Rattle.cr_phase4.specs.Search.{World, world_of}
use Rattle.cr_preproc_law.specs.Renaming.{Places, renaming_at}
use Rattle.cr_binding.specs.Resolution.{resolution, answers}
use Rattle.cr_binding.specs.Keys.{AreLinked}
use Rattle.cr_keeps.specs.UnitMeaning.{Tables, Meaning, finals, source, binding}
use Rattle.cr_keeps.specs.UnitFacts.{Meanings}

-- ---- files with the new name

-- the offsets of places, by the number of their file
abbrev pub offsets_by_file : List Place → Places
offsets_by_file places n = map {A = Place} (λ p. p.offset) (filter (λ (p : Place). nat_eq p.path.0 n) places)

-- the new name at its places, in files of which the first has number n
abbrev pub edited_from : ℕ → Places → Text → Text → List KnownFile → List KnownFile
edited_from n places old new [] = []
edited_from n places old new (file ∷ files) =
    record file { found = option_map (substituted (places n) (length old) new) file.found } ∷ edited_from (n + 1) places old new files

abbrev pub edited_files : Places → Text → Text → List KnownFile → List KnownFile
edited_files = edited_from 0

-- ---- one unit

-- the origin is one of the places
abbrev pub is_place_of : Renaming → Origin → Bool
is_place_of r (At p) = r.is_place p
is_place_of r Made = false

-- the spelling afterwards, by whether the token stood at one of the places
abbrev pub IsSpelledAs : Renaming → (before after : Text) → Bool → Type 0
IsSpelledAs r before after true = (before ≡ r.old) × (after ≡ r.new)
IsSpelledAs r before after false = after ≡ before

-- A final token before, and the one in its place afterwards.
pub record KeepsToken (r : Renaming) (before after : Token) : Type 0 where
  pub kind : after.kind ≡ before.kind
  -- it comes from where its byte was shifted to, or is made as before
  pub origin : after.origin ≡ shifted_origin r before.origin
  -- it is spelled as before, but at the places as old before and as new after
  pub spelling : IsSpelledAs r before.text after.text (is_place_of r before.origin)

-- A unit keeps its meaning: what it meant, and what it means in the edited files.
pub record KeepsUnit (r : Renaming) (names : Tables) (w w' : World) (u : Unit) (m : Meaning names w u) (m' : Meaning names w' u) : Type 0 where
  -- the lists of final tokens have the same length, and each token is kept
  pub count : length (finals m') ≡ length (finals m)
  pub tokens : (i : ℕ) (t t' : Token) → slice_get (finals m) i ≡ Some t → slice_get (finals m') i ≡ Some t' → KeepsToken r t t'
  -- the trees are equal, each identifier has the first declaring token that it had, and each ask its answer
  pub tree : m'.tree ≡ m.tree
  pub resolution : resolution (source m') (binding m') ≡ resolution (source m) (binding m)
  pub answers : answers (binding m') ≡ answers (binding m)

-- ---- all units

-- two tokens of two units mean one entity
abbrev pub AreOne : {names : Tables} {w : World} (u : Unit) → Meaning names w u → ℕ → (v : Unit) → Meaning names w v → ℕ → Type 0
AreOne u m i v k j = AreLinked u.number (source m) (binding m) i v.number (source k) (binding k) j

-- The units keep their meaning from one world to another, in which the old name has got the new one at some places.
pub record Keeps (r : Renaming) (names : Tables) (w w' : World) (units : List Unit) (before : Meanings names w units) : Type 0 where
  -- afterwards each of them is well-formed
  pub after : Meanings names w' units
  -- it keeps its meaning
  pub kept : (u : Unit) (there : Contains units u) → KeepsUnit r names w w' u (before u there) (after u there)
  -- and two tokens of any of them mean one entity just where they did
  pub links :
      (u v : Unit) (in_u : Contains units u) (in_v : Contains units v) (i j : ℕ)
      → AreOne u (before u in_u) i v (before v in_v) j ↔ AreOne u (after u in_u) i v (after v in_v) j

-- They keep it when the known files are edited at these places.
abbrev pub KeepsFiles : List Place → (old new : Text) → (names : Tables) (files : List KnownFile) (units : List Unit) → Meanings names (world_of files) units → Type 0
KeepsFiles places old new names files units before =
    Keeps (renaming_at (offsets_by_file places) old new) names (world_of files) (world_of (edited_files (offsets_by_file places) old new files)) units before
