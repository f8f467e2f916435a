use Rattle.std.proofs.Common.{◌≡◌, ◌++◌, map, drop}
use Rattle.std.specs.Prelude.{string_bytes}
use Rattle.cr_words.specs.Givens as spec
use Rattle.cr_words.specs.Seen.{given_of, reading_of}
use Rattle.cr_words.proofs.given.givens.Given as goal

abbrev pub invariant-loop-word : goal.invariant-loop-word
invariant-loop-word l = map given_of l.givens.items ++ spec.givens_behind (map string_bytes (drop l.word-index l.words)) (reading_of l.reading) ≡ spec.givens (map string_bytes l.words)
