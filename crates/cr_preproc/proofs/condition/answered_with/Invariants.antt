use Rattle.std.proofs.Common.{◌≡◌, ◌++◌, drop, map}
use Rattle.cr_macros.specs.Tokens.{tokens_of}
use Rattle.cr_phase4.specs.Conditionals.{is_macro_of, answered, pieces}
use Rattle.cr_preproc.specs.Seen.{AreNamed, macros_of, answered_list}
use Rattle.cr_preproc.proofs.condition.answered_with.Given as goal

abbrev pub invariant-loop-i : goal.invariant-loop-i
invariant-loop-i l =
    AreNamed l.names l.made.items
    × (tokens_of l.names l.made.items ++ map (answered (is_macro_of (macros_of l.names l.macros))) (pieces l.skip (tokens_of l.names (drop l.i l.tokens)))
    ≡ answered_list (macros_of l.names l.macros) (tokens_of l.names l.tokens))
