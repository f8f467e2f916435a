use Rattle.std.proofs.Common.{subst}
use Rattle.cr_survey.specs.Running.{AreEnds}
use Rattle.cr_survey.proofs.Runs.{again_more, ends_then}
use Rattle.cr_survey.proofs.running.run_again.Goals as goal

pub loop-run-preserved : goal.loop-run-preserved
loop-run-preserved c = (
  again_more c.loop-run.again.items _ c.loop-run.run-iterator.rest.items _ c.args.runs.items _ _ c.in_ok-push.ensures.items c.in-Some.ensures.steps.0 c.in_ok-run_on.ensures.unit c.loop-run.invariant.0,
  λ files agrees ends.
      let was = c.loop-run.invariant.1 files agrees ends in
      let rest = subst (AreEnds files c.args.renaming.old.now c.args.renaming.new.now) c.in-Some.ensures.steps.0 was.1 in (
        ends_then c.args.snapshot.now c.args.renaming.old.now c.args.renaming.new.now c.loop-run.again.items _ _ c.in_ok-push.ensures.items was.0 (c.in_ok-run_on.ensures.end files agrees rest.0),
        rest.1,
      ),
)
