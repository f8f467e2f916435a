use Rattle.std.proofs.Common.{◌++◌, map, ap, ◌∙◌}
use Rattle.cr_macros.specs.Tokens.{tokens_of}
use Rattle.cr_phase4.specs.Conditionals.{is_macro_of, answered}
use Rattle.cr_preproc.specs.Seen.{macros_of}
use Rattle.cr_preproc.proofs.Answered.{skips}
use Rattle.cr_preproc.proofs.condition.answered_with.Goals as goal

pub loop-i-preserved-then-skip-gt0 : goal.loop-i-preserved-then-skip-gt0
loop-i-preserved-then-skip-gt0 c = (
  c.loop-i.invariant.0,
  ap (λ x. tokens_of c.args.names.now c.loop-i.made.items ++ map (answered (is_macro_of (macros_of c.args.names.now c.args.macros.now))) x) (skips c.args.names.now c.args.tokens.now c.loop-i.i c.loop-i.skip c.loop-i-test.true c.if-skip-gt0.true)
      ∙ c.loop-i.invariant.1,
)
