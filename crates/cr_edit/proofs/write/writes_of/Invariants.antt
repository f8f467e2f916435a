use Rattle.std.proofs.Common.{◌≡◌, ◌++◌}
use Rattle.cr_edit.specs.Writing.{writes_from}
use Rattle.cr_edit.proofs.write.writes_of.Given as goal

abbrev pub invariant-loop-n : goal.invariant-loop-n
invariant-loop-n l = l.writes.items ++ writes_from l.n-iterator.count l.n-iterator.iter.rest.items ≡ writes_from 0 l.fn.edits.items
