-- A unit that is read whole, and what it means.
use Rattle.std.specs.Prelude.{◌≡◌, ℕ, List, length}
use Rattle.cr_base.specs.declared.unit.Unit.{Unit}
use Rattle.cr_macros.specs.Tokens.{Text}
use Rattle.cr_snapshot.specs.Files.{Present, finding}
use Rattle.cr_snapshot.specs.declared.known.KnownFile.{KnownFile}
use Rattle.cr_phase4.specs.Search.{World, world_of}
use Rattle.cr_phase4.specs.Traces.{trace_of}
use Rattle.cr_preproc.specs.Progressing.{kept}
use Rattle.cr_ll.specs.Derivation.{Trees}
use Rattle.cr_binding.specs.Source.{Source}
use Rattle.cr_binding.specs.WellFormed.{IsWellFormed}
use Rattle.cr_unit.specs.Preprocessing.{IsPreprocessed}
use Rattle.cr_unit.specs.Converting.{AreUnitTokens, place_at}
use Rattle.cr_unit.specs.declared.preprocessing.Whole.{Whole}
use Rattle.cr_unit.specs.declared.preprocessing.Preprocessed.TheVariants as ended
use Rattle.cr_unit.specs.declared.converting.UnitTokens.{UnitTokens}
use Rattle.cr_keeps.specs.UnitMeaning as meaning
use Rattle.cr_keeps.specs.UnitMeaning.{Tables, Meaning, number_of}

-- The main file is there, the unit is preprocessed whole (C11 5.1.1.2, phases 1 to 4), and its final tokens become these
-- (phases 5 to 7), with the end behind the main file's last byte.
pub record IsRead (files : List KnownFile) (u : Unit) (old new : Text) (w : Whole) (t : UnitTokens) : Type 0 where
  pub number : ℕ
  pub bytes : List ℕ
  pub main : finding u.main files ≡ Present number bytes
  pub whole : IsPreprocessed files u old new (ended.Whole w)
  pub tokens : AreUnitTokens w.names w.tokens.items (place_at number (length bytes)) old new t

-- the tokens as binding reads them
abbrev pub source : UnitTokens → Source
source t = record { texts = t.names; tokens = t.tokens.items }

-- The unit means these tokens and this tree; the names have these numbers; and what was kept is the trace.
pub record MeansRead {names : Tables} {world : World} {u : Unit} (m : Meaning names world u) (old new : Text) (w : Whole) (t : UnitTokens) (tree : Trees) : Type 0 where
  pub tokens : meaning.source m ≡ source t
  pub tree_is : m.tree ≡ tree
  pub old_is : number_of (names u) old ≡ t.old
  pub new_is : number_of (names u) new ≡ t.new
  pub trace : trace_of old new m.events ≡ kept w.trace

abbrev pub ReadUnitsMean : Type 0
ReadUnitsMean =
    (files : List KnownFile) (u : Unit) (old new : Text) (w : Whole) (t : UnitTokens)
    → IsRead files u old new w t
    → (tree : Trees) → IsWellFormed (source t) tree
    → (names : Tables) → names u ≡ t.names
    → (m : Meaning names (world_of files) u) × MeansRead m old new w t tree
