-- That a place has one spelling in all units.
use Rattle.std.specs.Prelude.{◌≡◌, true, List, Contains}
use Rattle.cr_base.specs.NameTable.{IsDistinct}
use Rattle.cr_snapshot.specs.declared.known.KnownFile.{KnownFile}
use Rattle.cr_snapshot.specs.Files.{NumbersItsPath}
use Rattle.cr_lex.specs.Order.{StandsInOrder}
use Rattle.cr_preproc_law.specs.Standing.{FinalsStand}
use Rattle.cr_phase7_law.specs.TokensStay.{KeepsTokens}
use Rattle.cr_keeps.specs.UnitMeaning.{Tables}
use Rattle.cr_base.specs.Names.{is_identifier}
use Rattle.cr_base.specs.declared.token.Place.{Place}
use Rattle.cr_base.specs.declared.token.Origin.TheVariants.{At}
use Rattle.cr_base.specs.declared.unit.Unit.{Unit}
use Rattle.cr_macros.specs.Tokens.{Text, Token, is_ident}
use Rattle.cr_phase4.specs.Search.{world_of}
use Rattle.cr_facts.specs.FactOrder.{Facts}
use Rattle.cr_class.specs.declared.class.Class.{Class}
use Rattle.cr_class.specs.declared.target.Target.{Target}
use Rattle.cr_keeps.specs.OnlyNames.{IsOnlyName}
use Rattle.cr_keeps.specs.UnitMeaning.{Meaning, finals}
use Rattle.cr_keeps.specs.UnitFacts.{Meanings}
use Rattle.cr_keeps.proofs.Chain.{PlacesHaveOneName, NamesAreIdentifiers}
use Rattle.cr_keeps.specs.AcceptedRenames.{IsAcceptedRename}

-- It follows from where final tokens stand, and from the order of tokens in a file.
abbrev pub OneSpellingAPlace : Type 0
OneSpellingAPlace =
    NumbersItsPath → StandsInOrder → FinalsStand → KeepsTokens
    → (names : Tables) (files : List KnownFile)
    → ((u : Unit) → IsDistinct (names u))
    → PlacesHaveOneName names files

-- A token of a name that is only a name, and comes from a place, is an identifier.
abbrev pub OldNamesAreIdentifiers : Type 0
OldNamesAreIdentifiers =
    NumbersItsPath → StandsInOrder → FinalsStand → KeepsTokens
    → (names : Tables) (files : List KnownFile) (old : Text)
    → ((u : Unit) → IsDistinct (names u)) → ((u : Unit) → Contains (names u) old) → is_identifier old ≡ true → IsOnlyName old
    → NamesAreIdentifiers names files old

-- A final token that comes from a place of the class is an identifier of the old name.
abbrev pub PlacedFinals : Type 0
PlacedFinals =
    NumbersItsPath → StandsInOrder → FinalsStand → KeepsTokens
    → (names : Tables) (files : List KnownFile) (units : List Unit) (old new : Text) (target : Target) (facts : Facts) (class : Class) (means : Meanings names (world_of files) units)
    → IsAcceptedRename names files units old new target facts class means
    → (u : Unit) (m : Meaning names (world_of files) u) (t : Token)
    → Contains (finals m) t
    → (p : Place) → t.origin ≡ At p → Contains class.places p
    → (is_ident t.kind ≡ true) × (t.text ≡ old)
