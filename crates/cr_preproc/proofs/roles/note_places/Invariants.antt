use Rattle.std.proofs.Common.{◌≡◌, ◌++◌, drop}
use Rattle.cr_macros.specs.Definition.{text_of}
use Rattle.cr_macros.specs.Tokens.{tokens_of}
use Rattle.cr_phase4.specs.Traces.{all_old_at}
use Rattle.cr_preproc.proofs.roles.note_places.Given as goal

abbrev pub invariant-loop-i : goal.invariant-loop-i
invariant-loop-i l =
    l.places.items ++ all_old_at (text_of l.names l.old) (tokens_of l.names (drop l.i l.tokens))
    ≡ l.fn.places.items ++ all_old_at (text_of l.names l.old) (tokens_of l.names l.tokens)
