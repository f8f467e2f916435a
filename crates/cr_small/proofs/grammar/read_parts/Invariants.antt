use Rattle.std.proofs.Common.{◌≡◌, ◌++◌, drop, map}
use Rattle.std.specs.Option.{option_map}
use Rattle.cr_lex.specs.Seen.{seen}
use Rattle.cr_small.specs.declared.grammar.Level.TheVariants as level
use Rattle.cr_small.specs.declared.grammar.State.TheVariants as state
use Rattle.cr_small.proofs.Parts.{read}
use Rattle.cr_small.proofs.grammar.read_parts.Given as goal

abbrev pub invariant-loop-i : goal.invariant-loop-i
invariant-loop-i l =
    read (state.Start level.File) (map (seen l.names) l.tokens) ≡ option_map (λ ps. l.parts.items ++ ps) (read l.state (map (seen l.names) (drop l.i l.tokens)))
