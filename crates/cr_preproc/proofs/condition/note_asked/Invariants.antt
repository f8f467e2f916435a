use Rattle.std.proofs.Common.{◌≡◌, ◌++◌, drop}
use Rattle.std.specs.Prelude.{flat_map}
use Rattle.cr_macros.specs.Definition.{text_of}
use Rattle.cr_macros.specs.Tokens.{tokens_of}
use Rattle.cr_phase4.specs.Conditionals.{asking, pieces}
use Rattle.cr_phase4.specs.Traces.{all_events_seen}
use Rattle.cr_preproc.proofs.condition.note_asked.Given as goal

abbrev pub invariant-loop-i : goal.invariant-loop-i
invariant-loop-i l =
    l.seen.items ++ all_events_seen (text_of l.names l.renaming.old) (text_of l.names l.renaming.new) (flat_map asking (pieces l.skip (tokens_of l.names (drop l.i l.tokens))))
    ≡ l.fn.seen.items ++ all_events_seen (text_of l.names l.renaming.old) (text_of l.names l.renaming.new) (flat_map asking (pieces 0 (tokens_of l.names l.tokens)))
