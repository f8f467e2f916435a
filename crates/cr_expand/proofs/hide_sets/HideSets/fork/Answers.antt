use Rattle.cr_expand.specs.HideSets.{set_at}
use Rattle.cr_expand.proofs.hide_sets.HideSets.fork.Goals as goal

pub loop-fork-preserved : goal.loop-fork-preserved
loop-fork-preserved c = c.in_ok-descend.ensures.kept (set_at c.args.self.now c.args.set.0) (set_at c.args.self.now c.args.other.0) c.loop-fork.invariant
