use Rattle.std.proofs.Common.{◌≡◌, map, drop, take, []}
use Rattle.cr_words.specs.Givens as spec
use Rattle.cr_words.specs.Seen.{given_of}
use Rattle.cr_words.proofs.given.first_fault.Given as goal

abbrev pub invariant-loop-n : goal.invariant-loop-n
invariant-loop-n l = spec.first_fault (map given_of (take l.n l.givens)) (map given_of (drop l.n l.givens)) ≡ spec.first_fault [] (map given_of l.givens)
