use Rattle.std.proofs.Common.{◌≡◌, List, Option, Some, map}
use Rattle.cr_world.specs.Outside.{Files, ReadsOnly, OnlyRead}
use Rattle.cr_snapshot.specs.Files.{apart_paths}
use Rattle.cr_snapshot.specs.declared.known.KnownFile.{KnownFile}
use Rattle.cr_growth.specs.Growth.{IsGrown}
use Rattle.cr_survey.specs.Batches.{LooksFor}
use Rattle.cr_survey.specs.Running.{AreEnds, unit_of}
use Rattle.cr_survey.proofs.batch.run_batch.Given as goal

abbrev pub invariant-loop : goal.invariant-loop
invariant-loop g l = record {
  reads : ReadsOnly (g.T.Tree.files l.fn.tree) (g.T.Tree.files l.tree) (g.T.Tree.reads l.fn.tree) (g.T.Tree.reads l.tree) (g.T.Tree.replaces l.fn.tree) (g.T.Tree.replaces l.tree) (g.T.Tree.replacings l.fn.tree) (g.T.Tree.replacings l.tree);
  asked : OnlyRead (LooksFor l.batch) (g.T.Tree.readings l.fn.tree) (g.T.Tree.readings l.tree);
  units : map unit_of l.runs.items ≡ l.batch;
  ends : AreEnds l.snapshot l.renaming.old.now l.renaming.new.now l.runs.items;
  grown : (files : Files) → g.T.Tree.files l.fn.tree ≡ Some files → (end : Option (List KnownFile)) → IsGrown files l.batch l.snapshot end → IsGrown files l.batch l.fn.snapshot end;
  apart : apart_paths l.snapshot ≡ apart_paths l.fn.snapshot;
}
