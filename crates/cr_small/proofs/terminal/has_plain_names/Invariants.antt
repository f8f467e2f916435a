use Rattle.std.proofs.Common.{◌≡◌, drop, map}
use Rattle.cr_small.specs.Terminals as terminals
use Rattle.cr_lex.specs.Seen.{seen}
use Rattle.cr_small.proofs.terminal.has_plain_names.Given as goal

abbrev pub invariant-loop-token : goal.invariant-loop-token
invariant-loop-token l = terminals.has_plain_names (map (seen l.names) (drop l.token-index l.tokens)) ≡ terminals.has_plain_names (map (seen l.names) l.tokens)
