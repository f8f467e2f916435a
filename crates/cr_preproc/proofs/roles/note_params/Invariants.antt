use Rattle.std.proofs.Common.{◌≡◌, ◌++◌, drop}
use Rattle.cr_macros.specs.Definition.{text_of}
use Rattle.cr_macros.specs.MacroTables.{macro_text}
use Rattle.cr_macros.specs.Tokens.{tokens_of}
use Rattle.cr_phase4.specs.Traces.{params_seen}
use Rattle.cr_preproc.proofs.roles.note_params.Given as goal

abbrev pub invariant-loop-i : goal.invariant-loop-i
invariant-loop-i l =
    l.seen.items ++ params_seen (text_of l.names l.renaming.old) (text_of l.names l.renaming.new) (macro_text l.names l.m) (tokens_of l.names (drop l.i l.body))
    ≡ l.fn.seen.items ++ params_seen (text_of l.names l.renaming.old) (text_of l.names l.renaming.new) (macro_text l.names l.m) (tokens_of l.names l.body)
