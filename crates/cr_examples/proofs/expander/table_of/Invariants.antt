use Rattle.cr_base.specs.NameTable.{IsDistinct}
use Rattle.cr_expand.specs.Machines.{AreMacros}
use Rattle.cr_examples.proofs.expander.table_of.Given as goal

abbrev pub invariant-loop-line : goal.invariant-loop-line
invariant-loop-line l = record {
  distinct : IsDistinct l.names;
  macros : AreMacros l.names l.macros;
}
