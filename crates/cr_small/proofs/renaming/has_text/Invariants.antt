use Rattle.std.proofs.Common.{◌≡◌, drop, map}
use Rattle.cr_small.specs.Renaming as renaming
use Rattle.cr_lex.specs.Seen.{seen}
use Rattle.cr_small.proofs.renaming.has_text.Given as goal

abbrev pub invariant-loop-token : goal.invariant-loop-token
invariant-loop-token l = renaming.has_text l.text (map (seen l.names) (drop l.token-index l.tokens)) ≡ renaming.has_text l.text (map (seen l.names) l.tokens)
