use Rattle.std.proofs.Common.{◌∙◌, arith, length, refl}
use Rattle.std.proofs.lemmas.List.{drop_all}
use Rattle.std.proofs.lemmas.Option.{slice_get_read}
use Rattle.cr_run.proofs.Lookups.{main_of}
use Rattle.cr_run.proofs.Finding.{passes, stops, none_left}
use Rattle.cr_run.proofs.survey.Survey.settle.Goals as goal

pub returns-then-not-is_clear-clause-settled : goal.returns-then-not-is_clear-clause-settled
returns-then-not-is_clear-clause-settled c meaning files s units h all =
    let at = slice_get_read c.args.batch.now (length c.args.batch.now) c.loop-unit.unit-index c.unit-item.result refl (omega arith) c.unit-item.is in
    let clear = c.is_clear.ensures meaning files s units h (all c.unit-item.result.main (main_of c.args.batch.now c.loop-unit.unit-index c.unit-item.result at)) in
    stops meaning files s.new c.args.batch.now c.loop-unit.unit-index c.unit-item.result c.is_clear.result _ (omega arith) c.unit-item.is clear c.if-not-is_clear.true c.in_ok-copy.ensures (c.loop-unit.invariant meaning files s units h all)

pub loop-unit-preserved : goal.loop-unit-preserved
loop-unit-preserved c meaning files s units h all =
    let at = slice_get_read c.args.batch.now (length c.args.batch.now) c.loop-unit.unit-index c.unit-item.result refl (omega arith) c.unit-item.is in
    let clear = c.is_clear.ensures meaning files s units h (all c.unit-item.result.main (main_of c.args.batch.now c.loop-unit.unit-index c.unit-item.result at)) in
    passes meaning files s.new c.args.batch.now c.loop-unit.unit-index c.unit-item.result c.is_clear.result (omega arith) c.unit-item.is clear c.if-not-is_clear.false ∙ c.loop-unit.invariant meaning files s units h all

pub returns-clause-settled : goal.returns-clause-settled
returns-clause-settled c meaning files s units h all =
    none_left meaning files s.new c.args.batch.now c.loop-unit.unit-index (drop_all c.loop-unit.unit-index c.args.batch.now (omega arith)) (c.loop-unit.invariant meaning files s units h all)
