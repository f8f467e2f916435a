use Rattle.std.proofs.Common.{◌≤◌, length}
use Rattle.std.specs.List.{All}
use Rattle.cr_base.specs.NameTable.{IsDistinct}
use Rattle.cr_expand.specs.HideSets.{Grows}
use Rattle.cr_expand.specs.Items.{IsTokenNamed}
use Rattle.cr_examples.proofs.expander.words.Given as goal

abbrev pub invariant-loop-word : goal.invariant-loop-word
invariant-loop-word l = record {
  grows : Grows l.initial.names l.names;
  distinct : IsDistinct l.names;
  named : All (IsTokenNamed l.names) l.list.items;
  short : length l.list.items ≤ 1001;
}
