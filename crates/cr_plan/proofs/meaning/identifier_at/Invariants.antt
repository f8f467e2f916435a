use Rattle.std.proofs.Common.{◌≡◌, drop, map}
use Rattle.std.specs.List.{find}
use Rattle.cr_lex.specs.Seen.{seen}
use Rattle.cr_plan.specs.Meant.{holds}
use Rattle.cr_plan.proofs.meaning.identifier_at.Given as goal

abbrev pub invariant-loop-token : goal.invariant-loop-token
invariant-loop-token l = find (holds l.offset) (map (seen l.names) (drop l.token-index l.tokens)) ≡ find (holds l.offset) (map (seen l.names) l.tokens)
