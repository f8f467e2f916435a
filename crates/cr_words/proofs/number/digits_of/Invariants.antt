use Rattle.std.proofs.Common.{◌≡◌, drop}
use Rattle.cr_words.specs.Numbers.{digits_from}
use Rattle.cr_words.proofs.number.digits_of.Given as goal

abbrev pub invariant-loop-digit : goal.invariant-loop-digit
invariant-loop-digit l = digits_from l.value (drop l.digit-index l.text) ≡ digits_from 0 l.text
