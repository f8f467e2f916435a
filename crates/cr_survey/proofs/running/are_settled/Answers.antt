use Rattle.std.proofs.Common.{◌≡◌, Some, length, refl, slice_get, arith, ap, ◌∙◌}
use Rattle.std.specs.Prelude.{◌==◌}
use Rattle.std.proofs.lemmas.Option.{slice_get_read}
use Rattle.cr_survey.proofs.Runs.{settles_false}
use Rattle.cr_survey.proofs.running.are_settled.Goals as goal

pub returns-then-not-is_empty : goal.returns-then-not-is_empty
returns-then-not-is_empty c =
    let at : slice_get c.args.runs.now c.loop-run.run-index ≡ Some c.run-item.result = slice_get_read c.args.runs.now (length c.args.runs.now) c.loop-run.run-index c.run-item.result refl (omega arith) c.run-item.is in
    settles_false c.args.runs.now c.loop-run.run-index c.run-item.result c.is_empty.result 0 at (c.is_empty.ensures ∙ ap (λ l. length l == 0) c.wants.ensures) c.if-not-is_empty.true c.loop-run.invariant
