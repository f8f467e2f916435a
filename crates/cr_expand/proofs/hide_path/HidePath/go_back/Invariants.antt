use Rattle.std.proofs.Common.{length}
use Rattle.cr_expand.specs.HidePaths.{IsFront}
use Rattle.cr_expand.proofs.hide_path.HidePath.go_back.Given as goal

abbrev pub invariant-loop-made : goal.invariant-loop-made
invariant-loop-made l = IsFront l.initial.self.steps.entries l.self.steps.entries

abbrev pub decreases-loop-made : goal.decreases-loop-made
decreases-loop-made l = length l.self.steps.entries
