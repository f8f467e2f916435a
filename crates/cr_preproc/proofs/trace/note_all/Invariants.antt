use Rattle.std.proofs.Common.{◌≡◌, ◌++◌, drop}
use Rattle.cr_macros.specs.Definition.{text_of}
use Rattle.cr_macros.specs.Tokens.{tokens_of}
use Rattle.cr_phase4.specs.Traces.{all_seen_as}
use Rattle.cr_preproc.proofs.trace.note_all.Given as goal

abbrev pub invariant-loop-i : goal.invariant-loop-i
invariant-loop-i l =
    l.seen.items ++ all_seen_as (text_of l.names l.renaming.old) (text_of l.names l.renaming.new) l.role (tokens_of l.names (drop l.i l.tokens))
    ≡ l.fn.seen.items ++ all_seen_as (text_of l.names l.renaming.old) (text_of l.names l.renaming.new) l.role (tokens_of l.names l.tokens)
