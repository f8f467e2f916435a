use Rattle.std.proofs.Common.{◌≡◌, ◌++◌, drop}
use Rattle.cr_macros.specs.Substitution.{escaped}
use Rattle.cr_expand.proofs.spelling.put_escaped.Given as goal

abbrev pub invariant-loop-i : goal.invariant-loop-i
invariant-loop-i l = l.out.items ++ escaped (drop l.i l.bytes) ≡ l.fn.out.items ++ escaped l.bytes
