use Rattle.std.proofs.Common.{◌≡◌, drop}
use Rattle.cr_macros.specs.OneToken.{are_number_bytes}
use Rattle.cr_macros.proofs.kinds.are_number_bytes.Given as goal

abbrev pub invariant-loop-i : goal.invariant-loop-i
invariant-loop-i l = are_number_bytes l.before (drop l.i l.text) ≡ are_number_bytes l.first l.text
