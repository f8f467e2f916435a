-- The joined law from the laws of the product.
use Rattle.cr_lex.specs.Order.{StandsInOrder}
use Rattle.cr_lex.specs.Renaming.{KeepsLexing}
use Rattle.cr_snapshot.specs.Files.{NumbersItsPath}
use Rattle.cr_phase4.specs.PreprocessingRun.{GoesOn}
use Rattle.cr_phase7_law.specs.TokensStay.{KeepsTokens}
use Rattle.cr_preproc_law.specs.Standing.{FinalsStand}
use Rattle.cr_preproc_law.specs.Finals.{SnapshotsAreNumbered}
use Rattle.cr_preproc_law.specs.Renaming.{KeepsPreprocessing}
use Rattle.cr_preproc_law.specs.Traces.{TracesAreFine}
use Rattle.cr_binding_law.specs.ConsistentUnits.{UnitsAreConsistent}
use Rattle.cr_binding_law.specs.RenamingKeys.{RenamingOfKeysKeepsUnits, EntitiesHaveOneKey}
use Rattle.cr_keys_law.specs.Spelled.{IdentifiersAreSpelled}
use Rattle.cr_keys_law.specs.SpelledAlike.{KeysTellNames}
use Rattle.cr_keys_law.specs.KeysMove.{KeysMove}
use Rattle.cr_keeps.specs.AcceptedRenames.{AcceptedRenamesKeep}
use Rattle.cr_class.specs.Accepted.{ClassTestsTell}

-- the laws on which it stands, each of one layer
pub record LowerLaws : Type 0 where
  pub lexing : KeepsLexing
  pub order : StandsInOrder
  pub numbers : NumbersItsPath
  pub numbered : SnapshotsAreNumbered
  pub goes_on : GoesOn
  pub preprocessing : KeepsPreprocessing
  pub traces : TracesAreFine
  pub stand : FinalsStand
  pub tokens7 : KeepsTokens
  pub units : RenamingOfKeysKeepsUnits
  pub consistent : UnitsAreConsistent
  pub spelled : IdentifiersAreSpelled
  pub tell : KeysTellNames
  pub move : KeysMove
  pub tests : ClassTestsTell
  pub one_key : EntitiesHaveOneKey

-- So an accepted verdict keeps the meaning of all units.
abbrev pub VerdictsKeepUnits : Type 0
VerdictsKeepUnits = LowerLaws → AcceptedRenamesKeep
