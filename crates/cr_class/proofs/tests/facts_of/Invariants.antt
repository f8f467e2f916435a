use Rattle.std.proofs.Common.{◌<◌, ℕ}
use Rattle.cr_class.specs.RenameClass.{KnowsAll}
use Rattle.cr_class.proofs.tests.facts_of.Given as goal

abbrev pub invariant-loop-told : goal.invariant-loop-told
invariant-loop-told l = (count : ℕ) → l.path.0 < count → KnowsAll count l.facts
