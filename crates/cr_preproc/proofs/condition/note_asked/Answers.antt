use Rattle.std.proofs.Common.{◌++◌, ap, ◌∙◌}
use Rattle.std.specs.Prelude.{flat_map}
use Rattle.cr_macros.specs.Definition.{text_of}
use Rattle.cr_phase4.specs.Conditionals.{asking}
use Rattle.cr_phase4.specs.Traces.{all_events_seen}
use Rattle.cr_preproc.proofs.Answered.{skips}
use Rattle.cr_preproc.proofs.condition.note_asked.Goals as goal

pub loop-i-preserved-then-skip-gt0 : goal.loop-i-preserved-then-skip-gt0
loop-i-preserved-then-skip-gt0 c =
    ap (λ x. c.loop-i.seen.items ++ all_events_seen (text_of c.args.names.now c.args.renaming.old) (text_of c.args.names.now c.args.renaming.new) (flat_map asking x)) (skips c.args.names.now c.args.tokens.now c.loop-i.i c.loop-i.skip c.loop-i-test.true c.if-skip-gt0.true)
    ∙ c.loop-i.invariant
