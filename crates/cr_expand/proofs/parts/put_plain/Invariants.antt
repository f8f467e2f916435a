use Rattle.std.proofs.Common.{◌≡◌, ◌++◌, drop}
use Rattle.cr_expand.specs.Parts.{parts_here}
use Rattle.cr_expand.proofs.parts.put_plain.Given as goal

abbrev pub invariant-loop-i : goal.invariant-loop-i
invariant-loop-i l = l.parts.items ++ parts_here (drop l.i l.tokens) ≡ l.fn.parts.items ++ parts_here l.tokens
