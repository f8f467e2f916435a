-- What an accepted verdict over the facts of all units gives: the premises of the laws on one layer.
use Rattle.std.specs.Prelude.{ℕ, ◌≡◌, Bool, true, ◌&&◌, List, Contains}
use Rattle.std.specs.List.{AllByRecursion}
use Rattle.cr_base.specs.declared.token.Place.{Place}
use Rattle.cr_base.specs.declared.token.Origin.TheVariants.{At}
use Rattle.cr_base.specs.declared.unit.Unit.{Unit}
use Rattle.cr_snapshot.specs.declared.known.KnownFile.{KnownFile}
use Rattle.cr_macros.specs.Tokens.{Text}
use Rattle.cr_phase4.specs.Search.{world_of}
use Rattle.cr_facts.specs.FactOrder.{Facts}
use Rattle.cr_expand_law.specs.Renaming.{Renaming}
use Rattle.cr_preproc_law.specs.Renaming.{renaming_at, IsFine, MayEdit}
use Rattle.cr_binding.specs.Source.{Source, token_of, name_at, is_identifier}
use Rattle.cr_binding_law.specs.Renaming.{text_of}
use Rattle.cr_binding_law.specs.RenamingKeys.{AreTokensOf, HaveNoConflict}
use Rattle.cr_class.specs.Verdict.{is_in_class}
use Rattle.cr_class.specs.declared.class.Class.{Class}
use Rattle.cr_class.specs.declared.target.Target.{Target}
use Rattle.cr_snapshot.specs.Files.{finding}
use Rattle.cr_keeps.specs.UnitMeaning.{Tables, number_of, Meaning, source, binding}
use Rattle.cr_keeps.specs.UnitFacts.{Meanings}
use Rattle.cr_keeps.specs.Keeps.{offsets_by_file, is_place_of}
use Rattle.cr_keeps.specs.AcceptedRenames.{IsAcceptedRename}

-- ---- what the tokens of units are

-- the renaming at the places of a class
abbrev pub renaming_of : Class → (old new : Text) → Renaming
renaming_of class old new = renaming_at (offsets_by_file class.places) old new

-- the identifiers at places of a class
abbrev pub is_class_token : Class → (old new : Text) → Source → ℕ → Bool
is_class_token class old new t i = is_identifier t i && is_place_of (renaming_of class old new) (token_of t i).origin

-- Tokens of two units that come from one place are spelled alike.
abbrev pub PlacesHaveOneName : Tables → List KnownFile → Type 0
PlacesHaveOneName names files =
    (u v : Unit) (m : Meaning names (world_of files) u) (k : Meaning names (world_of files) v) (i j : ℕ) (p : Place)
    → (token_of (source m) i).origin ≡ At p
    → (token_of (source k) j).origin ≡ At p
    → text_of (source m) (name_at (source m) i) ≡ text_of (source k) (name_at (source k) j)

-- A token of a name that comes from a place is an identifier.
abbrev pub NamesAreIdentifiers : Tables → List KnownFile → Text → Type 0
NamesAreIdentifiers names files old =
    (u : Unit) (m : Meaning names (world_of files) u) (i : ℕ) (p : Place)
    → (token_of (source m) i).origin ≡ At p
    → name_at (source m) i ≡ number_of (names u) old
    → is_identifier (source m) i ≡ true

-- ---- the premises of the laws on a unit

module _ (names : Tables) (files : List KnownFile) (units : List Unit) (old new : Text) (target : Target) (facts : Facts) (class : Class) (means : Meanings names (world_of files) units) where
  -- the identifiers at the places of the class are just the tokens that mean an entity of it
  abbrev pub ClassTokensAreOfKeys : Type 0
  ClassTokensAreOfKeys =
      IsAcceptedRename names files units old new target facts class means
      → (u : Unit) (there : Contains units u)
      → AreTokensOf (is_in_class class) (is_class_token class old new (source (means u there))) u.number (source (means u there)) (binding (means u there))

  abbrev pub NoUnitHasConflicts : Type 0
  NoUnitHasConflicts =
      IsAcceptedRename names files units old new target facts class means
      → (u : Unit) (there : Contains units u)
      → HaveNoConflict (is_in_class class) u.number (source (means u there)) (binding (means u there)) (number_of (names u) old) (number_of (names u) new)

  -- nothing that happens in the preprocessing of a unit does harm
  abbrev pub AllEventsAreFine : Type 0
  AllEventsAreFine =
      IsAcceptedRename names files units old new target facts class means
      → (u : Unit) (there : Contains units u)
      → AllByRecursion (IsFine (renaming_of class old new)) (means u there).events

  -- each file may be edited
  abbrev pub FilesMayBeEdited : Type 0
  FilesMayBeEdited =
      IsAcceptedRename names files units old new target facts class means → (path : Text) → MayEdit (world_of files) (offsets_by_file class.places) old new (finding path files)
