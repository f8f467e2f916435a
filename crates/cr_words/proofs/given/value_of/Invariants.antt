use Rattle.std.proofs.Common.{◌≡◌, map, drop}
use Rattle.cr_words.specs.Givens as spec
use Rattle.cr_words.specs.Seen.{given_of}
use Rattle.cr_words.proofs.given.value_of.Given as goal

abbrev pub invariant-loop-given : goal.invariant-loop-given
invariant-loop-given l = spec.value_of l.kind (map given_of (drop l.given-index l.givens)) ≡ spec.value_of l.kind (map given_of l.givens)
