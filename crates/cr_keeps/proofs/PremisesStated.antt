-- What an accepted verdict over the facts of all units gives, from the laws on names and keys.
use Rattle.std.specs.Prelude.{List}
use Rattle.cr_snapshot.specs.declared.known.KnownFile.{KnownFile}
use Rattle.cr_base.specs.declared.unit.Unit.{Unit}
use Rattle.cr_macros.specs.Tokens.{Text}
use Rattle.cr_phase4.specs.Search.{world_of}
use Rattle.cr_facts.specs.FactOrder.{Facts}
use Rattle.cr_preproc_law.specs.Traces.{TracesAreFine}
use Rattle.cr_keys_law.specs.Spelled.{IdentifiersAreSpelled}
use Rattle.cr_keys_law.specs.SpelledAlike.{KeysTellNames}
use Rattle.cr_class.specs.declared.class.Class.{Class}
use Rattle.cr_class.specs.declared.target.Target.{Target}
use Rattle.cr_keeps.specs.UnitMeaning.{Tables}
use Rattle.cr_keeps.specs.UnitFacts.{Meanings}
use Rattle.cr_keeps.proofs.Chain.{PlacesHaveOneName, NamesAreIdentifiers, ClassTokensAreOfKeys, NoUnitHasConflicts, AllEventsAreFine}
use Rattle.cr_class.specs.Accepted.{ClassTestsTell}
use Rattle.cr_binding_law.specs.RenamingKeys.{EntitiesHaveOneKey}

abbrev pub ClassTokens : Type 0
ClassTokens =
    IdentifiersAreSpelled → KeysTellNames → EntitiesHaveOneKey → ClassTestsTell
    → (names : Tables) (files : List KnownFile) (units : List Unit) (old new : Text) (target : Target) (facts : Facts) (class : Class) (means : Meanings names (world_of files) units)
    → PlacesHaveOneName names files → NamesAreIdentifiers names files old
    → ClassTokensAreOfKeys names files units old new target facts class means

abbrev pub Conflicts : Type 0
Conflicts =
    ClassTestsTell
    → (names : Tables) (files : List KnownFile) (units : List Unit) (old new : Text) (target : Target) (facts : Facts) (class : Class) (means : Meanings names (world_of files) units)
    → NoUnitHasConflicts names files units old new target facts class means

abbrev pub Events : Type 0
Events =
    TracesAreFine
    → (names : Tables) (files : List KnownFile) (units : List Unit) (old new : Text) (target : Target) (facts : Facts) (class : Class) (means : Meanings names (world_of files) units)
    → AllEventsAreFine names files units old new target facts class means
