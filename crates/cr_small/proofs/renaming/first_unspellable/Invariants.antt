use Rattle.std.proofs.Common.{◌≡◌, drop, map}
use Rattle.std.specs.List.{zip}
use Rattle.cr_lex.specs.Seen.{seen}
use Rattle.cr_small.specs.Renaming as renaming
use Rattle.cr_small.specs.Seen.{key_of_code}
use Rattle.cr_small.proofs.renaming.first_unspellable.Given as goal

abbrev pub invariant-loop-i : goal.invariant-loop-i
invariant-loop-i l =
    renaming.unspellable_among l.bytes l.new (map (seen l.names) l.tokens) (key_of_code l.key) (zip (map (seen l.names) (drop l.i l.tokens)) (drop l.i l.denotes))
    ≡ renaming.first_unspellable l.bytes l.new (key_of_code l.key) (map (seen l.names) l.tokens) l.denotes
