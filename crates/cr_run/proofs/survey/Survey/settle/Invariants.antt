use Rattle.std.proofs.Common.{◌≡◌, List, drop, not, find}
use Rattle.cr_base.specs.declared.unit.Unit.{Unit as TranslationUnit}
use Rattle.cr_world.specs.Outside.{Files}
use Rattle.cr_run.specs.Units.{mains}
use Rattle.cr_run.specs.Survey.{Meaning, is_clear}
use Rattle.cr_run.specs.Held.{Wanted, Holds, AllMet}
use Rattle.cr_run.proofs.survey.Survey.settle.Given as goal

abbrev pub invariant-loop-unit : goal.invariant-loop-unit
invariant-loop-unit l =
    (meaning : Meaning) (files : Files) (s : Wanted) (units : List TranslationUnit) → Holds meaning files s units l.self → AllMet s.source units (mains l.batch)
    → find (λ unit. not (is_clear meaning files s.new unit)) (drop l.unit-index l.batch) ≡ find (λ unit. not (is_clear meaning files s.new unit)) l.batch
