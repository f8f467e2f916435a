-- That keys of several units are equal after a renaming just where they were before.
use Rattle.std.specs.Prelude.{ℕ, ◌≡◌, List, Contains}
use Rattle.cr_base.specs.declared.token.Place.{Place}
use Rattle.cr_base.specs.declared.token.Origin.TheVariants.{At}
use Rattle.cr_base.specs.declared.key.Key.{Key}
use Rattle.cr_base.specs.declared.unit.Unit.{Unit}
use Rattle.cr_snapshot.specs.declared.known.KnownFile.{KnownFile}
use Rattle.cr_macros.specs.Tokens.{Text}
use Rattle.cr_phase4.specs.Search.{world_of}
use Rattle.cr_facts.specs.FactOrder.{Facts}
use Rattle.cr_binding.specs.Source.{token_of}
use Rattle.cr_binding.specs.Resolution.{Thing, occurrences}
use Rattle.cr_binding.specs.Keys.{key_of}
use Rattle.cr_keys_law.specs.KeysMove.{moved_key}
use Rattle.cr_keys_law.specs.Spelled.{IdentifiersAreSpelled}
use Rattle.cr_keys_law.specs.SpelledAlike.{KeysTellNames}
use Rattle.cr_binding_law.specs.ConsistentUnits.{UnitsAreConsistent}
use Rattle.cr_class.specs.Verdict.{is_in_class}
use Rattle.cr_class.specs.declared.class.Class.{Class}
use Rattle.cr_class.specs.declared.target.Target.{Target}
use Rattle.cr_keeps.specs.UnitMeaning.{Tables, source, binding}
use Rattle.cr_keeps.specs.UnitFacts.{Meanings}
use Rattle.cr_keeps.proofs.Chain.{PlacesHaveOneName, NamesAreIdentifiers}
use Rattle.cr_keeps.specs.AcceptedRenames.{IsAcceptedRename}
use Rattle.cr_class.specs.Accepted.{ClassTestsTell}
use Rattle.cr_binding_law.specs.RenamingKeys.{EntitiesHaveOneKey}

module _ (names : Tables) (files : List KnownFile) (units : List Unit) (means : Meanings names (world_of files) units) where
  -- the key of what a token of one of the units means
  abbrev pub Occurs : Key → Type 0
  Occurs k =
      (u : Unit) × (there : Contains units u) × (i : ℕ) × (x : Thing)
      × Contains (occurrences (binding (means u there))) (i, x)
      × (k ≡ key_of u.number (source (means u there)) (binding (means u there)) i x)

  -- a place from which a token of one of the units comes
  abbrev pub IsOrigin : Place → Type 0
  IsOrigin p = (u : Unit) × (there : Contains units u) × (i : ℕ) × ((token_of (source (means u there)) i).origin ≡ At p)

  -- no two places of tokens come together
  abbrev pub ShiftsApart : (Place → Place) → Type 0
  ShiftsApart shift = (p q : Place) → IsOrigin p → IsOrigin q → shift p ≡ shift q → p ≡ q

-- No two keys of the units come together.
abbrev pub KeysMoveApart : Type 0
KeysMoveApart =
    IdentifiersAreSpelled → KeysTellNames → EntitiesHaveOneKey → UnitsAreConsistent → ClassTestsTell
    → (names : Tables) (files : List KnownFile) (units : List Unit) (old new : Text) (target : Target) (facts : Facts) (class : Class) (means : Meanings names (world_of files) units)
    → PlacesHaveOneName names files
    → NamesAreIdentifiers names files old
    → IsAcceptedRename names files units old new target facts class means
    → (shift : Place → Place)
    → ShiftsApart names files units means shift
    → (k l : Key)
    → Occurs names files units means k
    → Occurs names files units means l
    → moved_key (is_in_class class) new shift k ≡ moved_key (is_in_class class) new shift l
    → k ≡ l
