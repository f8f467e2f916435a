use Rattle.std.proofs.Common.{◌≡◌, drop}
use Rattle.std.specs.Prelude.{bytes_eq}
use Rattle.std.specs.List.{list_any}
use Rattle.cr_run.specs.Units.{mains}
use Rattle.cr_run.proofs.plan.has_main.Given as goal

abbrev pub invariant-loop-unit : goal.invariant-loop-unit
invariant-loop-unit l = list_any (bytes_eq l.goal.source) (mains (drop l.unit-index l.units)) ≡ list_any (bytes_eq l.goal.source) (mains l.units)
