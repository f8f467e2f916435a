use Rattle.std.proofs.Common.{◌≡◌, ◌++◌, drop, []}
use Rattle.cr_expand.specs.Held.{all_held}
use Rattle.cr_macros.specs.Substitution.{spelling_of_rest}
use Rattle.cr_expand.proofs.spelling.put_rest.Given as goal

abbrev pub invariant-loop-i : goal.invariant-loop-i
invariant-loop-i l = l.out.items ++ spelling_of_rest (all_held l.names [] (drop l.i l.rest)) ≡ l.fn.out.items ++ spelling_of_rest (all_held l.names [] l.rest)
