use Rattle.std.proofs.Common.{◌≡◌, ◌++◌, drop, map}
use Rattle.cr_survey.specs.Running.{AreEnds, unit_of}
use Rattle.cr_survey.proofs.running.start.Given as goal

abbrev pub invariant-loop-unit : goal.invariant-loop-unit
invariant-loop-unit l =
    (map unit_of l.runs.items ++ drop l.unit-index l.units ≡ l.units)
    × AreEnds l.snapshot l.renaming.old.now l.renaming.new.now l.runs.items
