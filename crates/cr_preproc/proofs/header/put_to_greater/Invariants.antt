use Rattle.std.proofs.Common.{◌≡◌, ◌++◌, drop}
use Rattle.std.specs.Option.{option_map}
use Rattle.cr_macros.specs.Tokens.{tokens_of}
use Rattle.cr_phase4.specs.Directives.{to_greater}
use Rattle.cr_preproc.proofs.header.put_to_greater.Given as goal

abbrev pub invariant-loop-i : goal.invariant-loop-i
invariant-loop-i l =
    option_map (λ rest. l.name.items ++ rest) (to_greater (tokens_of l.names (drop l.i l.tokens))) ≡ option_map (λ rest. l.fn.name.items ++ rest) (to_greater (tokens_of l.names l.tokens))
