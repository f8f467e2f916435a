use Rattle.std.proofs.Common.{◌≡◌, [], Some, None, take, ◌*◌}
use Rattle.cr_world.specs.Outside.{Files, OnlyRead}
use Rattle.cr_run.specs.Survey.{Meaning, IsMeaning, refusal_below, refusal_of_batch}
use Rattle.cr_run.specs.Units.{IsMain}
use Rattle.cr_run.specs.Reading.{ReadsOnly}
use Rattle.cr_run.specs.Held.{wanted_of, IsPlaced, Holds}
use Rattle.cr_run.proofs.survey.Survey.read_units.Given as goal

abbrev pub invariant-loop-n : goal.invariant-loop-n
invariant-loop-n g l =
    ReadsOnly (g.T.Tree.files l.fn.tree) (g.T.Tree.files l.tree) (g.T.Tree.reads l.fn.tree) (g.T.Tree.reads l.tree) (g.T.Tree.replaces l.fn.tree) (g.T.Tree.replaces l.tree) (g.T.Tree.replacings l.fn.tree) (g.T.Tree.replacings l.tree)
    × ((meaning : Meaning) (files : Files) → IsMeaning meaning → g.T.Tree.files l.fn.tree ≡ Some files → Holds meaning files (wanted_of l.sought) [] l.fn.self
    → Holds meaning files (wanted_of l.sought) (take (64 * l.n) l.units) l.self
    × (refusal_below (refusal_of_batch meaning files (wanted_of l.sought).source (wanted_of l.sought).new l.units) l.n ≡ None))
    × (IsPlaced l.sought l.fn.self → IsPlaced l.sought l.self)
    × OnlyRead (IsMain l.units) (g.T.Tree.readings l.fn.tree) (g.T.Tree.readings l.tree)
