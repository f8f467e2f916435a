use Rattle.std.proofs.Common.{◌≡◌, ◌++◌, List, map}
use Rattle.cr_snapshot.specs.declared.known.KnownFile.{KnownFile}
use Rattle.cr_phase4.specs.PreprocessingRun.{Agrees}
use Rattle.cr_phase4.specs.Search.{world_of}
use Rattle.cr_survey.specs.Running.{AreEnds, unit_of}
use Rattle.cr_survey.proofs.running.run_again.Given as goal

abbrev pub invariant-loop-run : goal.invariant-loop-run
invariant-loop-run l =
    (map unit_of l.again.items ++ map unit_of l.run-iterator.rest.items ≡ map unit_of l.fn.runs.items)
    × ((files : List KnownFile) → Agrees (world_of files) (world_of l.snapshot)
    → AreEnds files l.renaming.old.now l.renaming.new.now l.fn.runs.items
    → AreEnds l.snapshot l.renaming.old.now l.renaming.new.now l.again.items
    × AreEnds files l.renaming.old.now l.renaming.new.now l.run-iterator.rest.items)
