use Rattle.std.proofs.Common.{◌≡◌, Some, length, refl, slice_get, arith}
use Rattle.std.proofs.lemmas.Option.{slice_get_read}
use Rattle.cr_survey.proofs.Runs.{stand_more, ends_then}
use Rattle.cr_survey.proofs.running.start.Goals as goal

pub loop-unit-preserved : goal.loop-unit-preserved
loop-unit-preserved c =
    let at : slice_get c.args.units.now c.loop-unit.unit-index ≡ Some c.unit-item.result = slice_get_read c.args.units.now (length c.args.units.now) c.loop-unit.unit-index c.unit-item.result refl (omega arith) c.unit-item.is in (
      stand_more c.args.units.now c.loop-unit.unit-index c.unit-item.result c.loop-unit.runs.items _ _ at c.in_ok-push.ensures.items refl c.loop-unit.invariant.0,
      ends_then c.args.snapshot.now c.args.renaming.old.now c.args.renaming.new.now c.loop-unit.runs.items _ _ c.in_ok-push.ensures.items c.loop-unit.invariant.1 c.in_ok-end.ensures,
    )
