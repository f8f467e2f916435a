use Rattle.std.proofs.Common.{◌≡◌, ◌≤◌, ◌+◌, Some, Result, length}
use Rattle.std.specs.FinSet.{empty}
use Rattle.cr_world.specs.Outside.{Files, ReadsOnly, OnlyRead}
use Rattle.cr_snapshot.specs.Files.{apart_paths}
use Rattle.cr_goal.specs.declared.refusal.Refused.{Refused}
use Rattle.cr_survey.specs.Batches.{LooksFor, Surveyed, AreSurveyed}
use Rattle.cr_survey.specs.Running.{IsRestOf}
use Rattle.cr_survey.proofs.units.survey.Given as goal

abbrev pub invariant-loop-rest : goal.invariant-loop-rest
invariant-loop-rest g l = record {
  reads : ReadsOnly (g.T.Tree.files l.fn.tree) (g.T.Tree.files l.tree) (g.T.Tree.reads l.fn.tree) (g.T.Tree.reads l.tree) (g.T.Tree.replaces l.fn.tree) (g.T.Tree.replaces l.tree) (g.T.Tree.replacings l.fn.tree) (g.T.Tree.replacings l.tree);
  asked : OnlyRead (LooksFor l.units) (g.T.Tree.readings l.fn.tree) (g.T.Tree.readings l.tree);
  room : apart_paths l.snapshot + length l.rest ≤ 65536;
  part : IsRestOf l.rest l.units;
  surveyed : (files : Files) → g.T.Tree.files l.fn.tree ≡ Some files → (end : Result Surveyed Refused)
      → AreSurveyed l.renaming.old.now l.renaming.new.now files l.rest l.snapshot l.facts end
      → AreSurveyed l.renaming.old.now l.renaming.new.now files l.units l.fn.snapshot empty end;
}

abbrev pub decreases-loop-rest : goal.decreases-loop-rest
decreases-loop-rest g l = length l.rest
