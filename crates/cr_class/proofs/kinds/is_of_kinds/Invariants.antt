use Rattle.std.proofs.Common.{◌≡◌, false, take}
use Rattle.cr_class.specs.RenameClass.{is_of_kinds}
use Rattle.cr_class.proofs.kinds.is_of_kinds.Given as goal

abbrev pub invariant-loop-kind : goal.invariant-loop-kind
invariant-loop-kind l = is_of_kinds (take l.kind-index l.kinds) l.facts l.key ≡ false
