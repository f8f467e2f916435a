-- From final tokens with the new name at the places of a class to the tokens of the unit.
use Rattle.std.specs.Prelude.{◌≡◌, Ok, List, length, map, Contains}
use Rattle.cr_base.specs.declared.token.Place.{Place}
use Rattle.cr_base.specs.declared.token.Tok.{Tok}
use Rattle.cr_base.specs.declared.unit.Unit.{Unit}
use Rattle.cr_snapshot.specs.declared.known.KnownFile.{KnownFile}
use Rattle.cr_macros.specs.Tokens.{Text}
use Rattle.cr_expand_law.specs.Renaming.{all_renamed}
use Rattle.cr_phase4.specs.Lines.{place_in}
use Rattle.cr_phase4.specs.Search.{world_of}
use Rattle.cr_phase7.specs.Tokens.{tokens_of}
use Rattle.cr_phase7_law.specs.TokensStay.{KeepsTokens}
use Rattle.cr_facts.specs.FactOrder.{Facts}
use Rattle.cr_binding_law.specs.Renaming.{IsRenamed}
use Rattle.cr_keys_law.specs.KeysMove.{IsMoved}
use Rattle.cr_keys_law.specs.Spelled.{IdentifiersAreSpelled}
use Rattle.cr_keys_law.specs.SpelledAlike.{KeysTellNames}
use Rattle.cr_class.specs.declared.class.Class.{Class}
use Rattle.cr_class.specs.declared.target.Target.{Target}
use Rattle.cr_keeps.specs.UnitMeaning.{Tables, number_of, numbered, Meaning, finals, source, source_of}
use Rattle.cr_keeps.specs.UnitFacts.{Meanings}
use Rattle.cr_keeps.specs.OnlyNames.{IsOnlyName}
use Rattle.cr_keeps.proofs.Chain.{PlacesHaveOneName, NamesAreIdentifiers, renaming_of, is_class_token}
use Rattle.cr_keeps.specs.AcceptedRenames.{IsAcceptedRename}
use Rattle.cr_class.specs.Accepted.{ClassTestsTell}
use Rattle.cr_binding_law.specs.RenamingKeys.{EntitiesHaveOneKey}

-- The tokens that the renamed final tokens become, with an end behind them.
pub record IsAfter (names : Tables) (files : List KnownFile) (class : Class) (old new : Text) (u : Unit) (m : Meaning names (world_of files) u) (end : Place) : Type 0 where
  pub tokens : List Tok
  pub become : tokens_of (names u) (map (numbered (names u)) (all_renamed (renaming_of class old new) (finals m))) ≡ Ok tokens
  pub renamed : IsRenamed (is_class_token class old new (source m)) (number_of (names u) old) (number_of (names u) new) (source m) (source_of (names u) tokens end)
  pub moved : IsMoved ((renaming_of class old new).shift) (source m) (source_of (names u) tokens end)

abbrev pub TokensAreRenamed : Type 0
TokensAreRenamed =
    IdentifiersAreSpelled → KeysTellNames → EntitiesHaveOneKey → ClassTestsTell → KeepsTokens
    → (names : Tables) (files : List KnownFile) (units : List Unit) (old new : Text) (target : Target) (facts : Facts) (class : Class) (means : Meanings names (world_of files) units)
    → PlacesHaveOneName names files → NamesAreIdentifiers names files old
    → IsAcceptedRename names files units old new target facts class means
    → IsOnlyName old → IsOnlyName new
    → (u : Unit) (there : Contains units u) (end : Place)
    → end ≡ (renaming_of class old new).shift (place_in (means u there).number (length (means u there).bytes))
    → IsAfter names files class old new u (means u there) end
