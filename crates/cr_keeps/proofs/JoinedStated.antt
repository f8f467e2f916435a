-- The joined law, from the laws on one layer and some lemmas that are stated here.
use Rattle.std.specs.Prelude.{ℕ, ◌≡◌, ◌<◌, true, List, length, Contains}
use Rattle.cr_base.specs.Substitution.{Rise, substituted, shifted}
use Rattle.cr_base.specs.Names.{is_identifier}
use Rattle.cr_base.specs.NameTable.{IsDistinct}
use Rattle.cr_base.specs.declared.token.Place.{Place}
use Rattle.cr_base.specs.declared.token.Origin.TheVariants.{At}
use Rattle.cr_base.specs.declared.unit.Unit.{Unit}
use Rattle.cr_snapshot.specs.declared.known.KnownFile.{KnownFile}
use Rattle.cr_macros.specs.Tokens.{Text, Token, is_ident}
use Rattle.cr_phase4.specs.PreprocessingRun.{GoesOn}
use Rattle.cr_phase4.specs.Search.{world_of}
use Rattle.cr_phase7_law.specs.TokensStay.{KeepsTokens}
use Rattle.cr_facts.specs.FactOrder.{Facts}
use Rattle.cr_preproc_law.specs.Finals.{SnapshotsAreNumbered}
use Rattle.cr_preproc_law.specs.Renaming.{KeepsPreprocessing}
use Rattle.cr_preproc_law.specs.Traces.{TracesAreFine}
use Rattle.cr_binding_law.specs.ConsistentUnits.{UnitsAreConsistent}
use Rattle.cr_binding_law.specs.RenamingKeys.{RenamingOfKeysKeepsUnits, EntitiesHaveOneKey}
use Rattle.cr_keys_law.specs.Spelled.{IdentifiersAreSpelled}
use Rattle.cr_keys_law.specs.SpelledAlike.{KeysTellNames}
use Rattle.cr_keys_law.specs.KeysMove.{KeysMove}
use Rattle.cr_class.specs.declared.class.Class.{Class}
use Rattle.cr_class.specs.declared.target.Target.{Target}
use Rattle.cr_keeps.specs.UnitMeaning.{Tables, Meaning, finals}
use Rattle.cr_keeps.specs.UnitFacts.{Meanings}
use Rattle.cr_keeps.specs.AcceptedRenames.{MayTakeThePlace, AcceptedRenamesKeep, IsAcceptedRename}
use Rattle.cr_keeps.proofs.Chain.{PlacesHaveOneName, NamesAreIdentifiers, renaming_of, FilesMayBeEdited}
use Rattle.cr_class.specs.Accepted.{ClassTestsTell}
use Rattle.cr_keeps.proofs.LinksStated.{ShiftsApart, KeysMoveApart}
use Rattle.cr_keeps.proofs.PremisesStated.{ClassTokens, Conflicts, Events}
use Rattle.cr_keeps.specs.OnlyNames.{IsOnlyName}
use Rattle.cr_keeps.proofs.RenamedStated.{TokensAreRenamed}

-- A final token that comes from a place of the class is an identifier of the old name.
abbrev pub PlacedFinalsAreOld : Type 0
PlacedFinalsAreOld =
    (names : Tables) (files : List KnownFile) (units : List Unit) (old new : Text) (target : Target) (facts : Facts) (class : Class) (means : Meanings names (world_of files) units)
    → IsAcceptedRename names files units old new target facts class means
    → (u : Unit) (m : Meaning names (world_of files) u) (t : Token)
    → Contains (finals m) t
    → (p : Place) → t.origin ≡ At p → Contains class.places p
    → (is_ident t.kind ≡ true) × (t.text ≡ old)

-- the laws that are proved, each over one layer or from the facts
pub record Laws : Type 0 where
  pub preprocessing : KeepsPreprocessing
  pub traces : TracesAreFine
  pub numbers : SnapshotsAreNumbered
  pub goes_on : GoesOn
  pub tokens7 : KeepsTokens
  pub units : RenamingOfKeysKeepsUnits
  pub consistent : UnitsAreConsistent
  pub spelled : IdentifiersAreSpelled
  pub tell : KeysTellNames
  pub one_key : EntitiesHaveOneKey
  pub move : KeysMove
  pub apart : KeysMoveApart
  pub class_tokens : ClassTokens
  pub conflicts : Conflicts
  pub events : Events
  pub renamed : TokensAreRenamed
  pub identifiers : (names : Tables) (files : List KnownFile) (old : Text) → ((u : Unit) → IsDistinct (names u)) → ((u : Unit) → Contains (names u) old) → is_identifier old ≡ true → IsOnlyName old → NamesAreIdentifiers names files old
  pub placed : PlacedFinalsAreOld
  pub one_spelling : (names : Tables) (files : List KnownFile) → ((u : Unit) → IsDistinct (names u)) → PlacesHaveOneName names files

-- The length of edited bytes is where their end is shifted to.
abbrev pub LengthsShift : Type 0
LengthsShift =
    (offsets : List ℕ) (old_len : ℕ) (new bytes : List ℕ) → 0 < old_len → Rise 0 offsets old_len (length bytes)
    → length (substituted offsets old_len new bytes) ≡ shifted offsets old_len (length new) (length bytes)

-- lemmas of this crate that it takes
pub record Lemmas : Type 0 where
  pub tests : ClassTestsTell
  pub editable :
      (names : Tables) (files : List KnownFile) (units : List Unit) (old new : Text) (target : Target) (facts : Facts) (class : Class) (means : Meanings names (world_of files) units)
      → FilesMayBeEdited names files units old new target facts class means
  pub shifts :
      (names : Tables) (files : List KnownFile) (units : List Unit) (old new : Text) (target : Target) (facts : Facts) (class : Class) (means : Meanings names (world_of files) units)
      → IsAcceptedRename names files units old new target facts class means
      → ShiftsApart names files units means (renaming_of class old new).shift
  pub lengths : LengthsShift
  pub only_new : (old new : Text) → MayTakeThePlace old new → IsOnlyName new

-- They give the joined law.
abbrev pub LawsJoin : Type 0
LawsJoin = Laws → Lemmas → AcceptedRenamesKeep
