use Rattle.std.proofs.Common.{◌≡◌, drop}
use Rattle.cr_phase7.specs.Numbers as spec
use Rattle.cr_phase7.proofs.number.after_digits.Given as goal

abbrev pub invariant-loop-i : goal.invariant-loop-i
invariant-loop-i l = spec.after_digits l.radix (drop l.i l.text) ≡ spec.after_digits l.radix l.text
