use Rattle.std.proofs.Common.{◌≡◌, List, Some, take, ◌++◌}
use Rattle.cr_base.specs.declared.unit.Unit.{Unit as TranslationUnit}
use Rattle.cr_world.specs.Outside.{Files, OnlyRead}
use Rattle.cr_run.specs.Survey.{Meaning, IsMeaning}
use Rattle.cr_run.specs.Units.{IsMain}
use Rattle.cr_run.specs.Reading.{ReadsOnly}
use Rattle.cr_run.specs.Held.{wanted_of, IsPlaced, Holds}
use Rattle.cr_run.proofs.survey.Survey.read_batch.Given as goal

abbrev pub invariant-loop-unit : goal.invariant-loop-unit
invariant-loop-unit g l =
    ReadsOnly (g.T.Tree.files l.fn.tree) (g.T.Tree.files l.tree) (g.T.Tree.reads l.fn.tree) (g.T.Tree.reads l.tree) (g.T.Tree.replaces l.fn.tree) (g.T.Tree.replaces l.tree) (g.T.Tree.replacings l.fn.tree) (g.T.Tree.replacings l.tree)
    × ((meaning : Meaning) (files : Files) (done : List TranslationUnit) → IsMeaning meaning → g.T.Tree.files l.fn.tree ≡ Some files
    → Holds meaning files (wanted_of l.sought) done l.fn.self → Holds meaning files (wanted_of l.sought) (done ++ take l.unit-index l.batch) l.self)
    × (IsPlaced l.sought l.fn.self → IsPlaced l.sought l.self)
    × OnlyRead (IsMain l.batch) (g.T.Tree.readings l.fn.tree) (g.T.Tree.readings l.tree)
