use Rattle.std.proofs.Common.{◌≡◌}
use Rattle.std.specs.List.{list_any}
use Rattle.std.specs.BTreeSet as tree
use Rattle.cr_class.specs.RenameClass.{key_cmp}
use Rattle.cr_class.specs.Judging.{scope_of}
use Rattle.cr_class.proofs.steps.has_file_scope.Given as goal

abbrev pub invariant-loop-fact : goal.invariant-loop-fact
invariant-loop-fact l = list_any (scope_of (tree.contains key_cmp l.members.keys)) l.fact-iterator ≡ list_any (scope_of (tree.contains key_cmp l.members.keys)) l.initial.fact-iterator
