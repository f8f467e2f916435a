use Rattle.std.proofs.Common.{◌≡◌, None}
use Rattle.cr_expand.specs.Machines.{AreMacros}
use Rattle.cr_expand.specs.Expanders.{IsRunning}
use Rattle.cr_examples.proofs.expander.given.Given as goal

abbrev pub invariant-loop-i : goal.invariant-loop-i
invariant-loop-i l = record {
  macros : AreMacros l.names l.macros;
  running : IsRunning l.names l.macros l.e;
  fault : l.e.fault ≡ None;
}
