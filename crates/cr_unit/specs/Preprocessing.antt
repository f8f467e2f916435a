-- How the preprocessing of a unit ends, over files that are known.
use Rattle.std.specs.Prelude.{◌≡◌, ◌<◌, ◌≤◌, ◌^◌, List, length, map}
use Rattle.cr_base.specs.NameTable.{IsDistinct}
use Rattle.cr_base.specs.declared.unit.Unit.{Unit}
use Rattle.cr_macros.specs.Tokens.{Text, tokens_of}
use Rattle.cr_expand.specs.Expanders.{plain}
use Rattle.cr_snapshot.specs.declared.known.KnownFile.{KnownFile}
use Rattle.cr_phase4.specs.Tasks.{Needs, Event, State, Goes, Ends, Done}
use Rattle.cr_phase4.specs.PreprocessingRun.{final_tokens}
use Rattle.cr_phase4.specs.Search.{world_of}
use Rattle.cr_phase4.specs.Preprocessing.{preprocessed}
use Rattle.cr_phase4.specs.Traces.{trace_of}
use Rattle.cr_preproc.specs.Seen.{AreNamed}
use Rattle.cr_preproc.specs.Progressing.{kept}
use Rattle.cr_preproc.specs.Expanding.{end_by}
use Rattle.cr_unit.specs.declared.preprocessing.Whole.{Whole}
use Rattle.cr_unit.specs.declared.preprocessing.Preprocessed.{Preprocessed}
use Rattle.cr_unit.specs.declared.preprocessing.Preprocessed.TheVariants as ended

-- the final tokens and the trace of these events
pub record IsWhole (old new : Text) (events : List Event) (w : Whole) : Type 0 where
  pub tokens : tokens_of w.names w.tokens.items ≡ map plain (final_tokens events)
  pub trace : kept w.trace ≡ trace_of old new events
  pub distinct : IsDistinct w.names
  pub named : AreNamed w.names w.tokens.items
  pub room : length w.names < 2 ^ 31
  pub within : length w.tokens.items ≤ 1048576

abbrev pub IsPreprocessed : List KnownFile → Unit → Text → Text → Preprocessed → Type 0
IsPreprocessed files unit old new (ended.Whole w) = (s : State) × (events : List Event) × (preprocessed (world_of files) unit ≡ Goes Done s events) × IsWhole old new events w
IsPreprocessed files unit old new (ended.Wants paths) = (events : List Event) × (preprocessed (world_of files) unit ≡ Ends (Needs paths.items) events)
IsPreprocessed files unit old new (ended.Ill cause place) =
    (events : List Event) × (preprocessed (world_of files) unit ≡ Ends (end_by (record { cause = cause; place = place })) events)
