-- That the files of an accepted rename may be edited, and that no two places of tokens come together.
use Rattle.std.specs.Prelude.{ℕ, ◌≡◌, ◌+◌, ◌<◌, true, false, List, length, Contains}
use Rattle.std.specs.declared.cmp.Ordering.TheVariants.{Less}
use Rattle.cr_base.specs.Names.{is_identifier}
use Rattle.cr_base.specs.declared.token.Place.{Place}
use Rattle.cr_base.specs.declared.unit.Unit.{Unit}
use Rattle.cr_lex.specs.Lexing as lexing
use Rattle.cr_lex.specs.Lexing.{lexed}
use Rattle.cr_lex.specs.Order.{StandsInOrder}
use Rattle.cr_lex.specs.Renaming.{KeepsLexing}
use Rattle.cr_snapshot.specs.declared.known.KnownFile.{KnownFile}
use Rattle.cr_snapshot.specs.Files.{NumbersItsPath}
use Rattle.cr_macros.specs.Tokens.{Text}
use Rattle.cr_phase4.specs.Search.{world_of}
use Rattle.cr_phase7_law.specs.TokensStay.{KeepsTokens}
use Rattle.cr_preproc_law.specs.Standing.{FinalsStand}
use Rattle.cr_facts.specs.FactOrder.{Facts}
use Rattle.cr_class.specs.RenameClass.{place_cmp}
use Rattle.cr_class.specs.Verdict.{stands_at}
use Rattle.cr_class.specs.declared.class.Class.{Class}
use Rattle.cr_class.specs.declared.target.Target.{Target}
use Rattle.cr_keeps.specs.UnitMeaning.{Tables}
use Rattle.cr_keeps.specs.UnitFacts.{Meanings}
use Rattle.cr_keeps.proofs.Chain.{renaming_of, FilesMayBeEdited}
use Rattle.cr_keeps.specs.AcceptedRenames.{IsAcceptedRename}
use Rattle.cr_keeps.proofs.LinksStated.{ShiftsApart}
use Rattle.cr_keeps.proofs.JoinedStated.{LengthsShift}

-- A name that stands byte by byte where a token of its text begins has no join inside, and ends behind these bytes.
abbrev pub NamesStandWhole : Type 0
NamesStandWhole =
    (bytes old : List ℕ) (t : lexing.Token)
    → is_identifier old ≡ true → Contains (lexed bytes).tokens t → t.text ≡ old → stands_at old bytes t.at ≡ true
    → (t.joined ≡ false) × (t.end ≡ t.at + length old)

-- Places of one file are ordered by their offsets.
abbrev pub PlacesAreOrdered : Type 0
PlacesAreOrdered = (p q : Place) → place_cmp p q ≡ Less → p.path.0 ≡ q.path.0 → p.offset < q.offset

abbrev pub FilesAreEditable : Type 0
FilesAreEditable =
    NumbersItsPath → StandsInOrder → FinalsStand → KeepsTokens → NamesStandWhole → PlacesAreOrdered
    → (names : Tables) (files : List KnownFile) (units : List Unit) (old new : Text) (target : Target) (facts : Facts) (class : Class) (means : Meanings names (world_of files) units)
    → FilesMayBeEdited names files units old new target facts class means

abbrev pub ShiftsKeepApart : Type 0
ShiftsKeepApart =
    NumbersItsPath → StandsInOrder → FinalsStand → KeepsTokens → KeepsLexing → LengthsShift
    → (names : Tables) (files : List KnownFile) (units : List Unit) (old new : Text) (target : Target) (facts : Facts) (class : Class) (means : Meanings names (world_of files) units)
    → FilesMayBeEdited names files units old new target facts class means
    → IsAcceptedRename names files units old new target facts class means
    → ShiftsApart names files units means (renaming_of class old new).shift
