use Rattle.std.proofs.Common.{◌≡◌, drop, map}
use Rattle.std.specs.List.{zip}
use Rattle.cr_small.specs.Renaming as renaming
use Rattle.cr_lex.specs.Seen.{seen}
use Rattle.cr_small.proofs.renaming.target_at.Given as goal

abbrev pub invariant-loop-i : goal.invariant-loop-i
invariant-loop-i l = renaming.target_among (map (seen l.names) l.tokens) l.offset (zip (map (seen l.names) (drop l.i l.tokens)) (drop l.i l.denotes)) ≡ renaming.target_at l.offset (map (seen l.names) l.tokens) l.denotes
