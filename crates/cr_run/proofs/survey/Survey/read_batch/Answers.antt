use Rattle.std.proofs.Common.{rules, ◌≡◌, ◌∙◌, sym, subst, arith, length, take, refl, ◌++◌}
use Rattle.std.specs.Prelude.{Err}
use Rattle.std.proofs.lemmas.Option.{slice_get_read}
use Rattle.std.proofs.lemmas.List.{take_all}
use Rattle.cr_run.specs.Units.{IsMain}
use Rattle.cr_run.specs.Reading.{HasReadCause}
use Rattle.cr_run.proofs.Lookups.{main_of}
use Rattle.cr_run.specs.Held.{wanted_of, Holds, Met}
use Rattle.cr_run.proofs.Causes.{reads_both, cause_more, rose_earlier}
use Rattle.cr_world.proofs.Histories.{read_both, read_wider}
use Rattle.cr_run.proofs.Batches.{taken_on, met_err}
use Rattle.cr_run.proofs.survey.Survey.read_batch.Goals as goal

pub returns-in_err-meet-clause-met : goal.returns-in_err-meet-clause-met
returns-in_err-meet-clause-met g c meaning files done is told h =
    let e : c.from_residual.result ≡ Err c.in_err-meet.field-0.0 = search rules in
    let at = slice_get_read c.args.batch.now (length c.args.batch.now) c.loop-unit.unit-index c.unit-item.result refl (omega arith) c.unit-item.is in
    subst (Met meaning files (wanted_of c.args.sought.now) (done ++ c.args.batch.now) c.meet.new.self) (sym e)
    (met_err meaning files (wanted_of c.args.sought.now) done c.args.batch.now c.loop-unit.unit-index c.unit-item.result c.meet.new.self c.in_err-meet.field-0.0 at
    (c.in_err-meet.ensures.met meaning files (done ++ take c.loop-unit.unit-index c.args.batch.now) is (c.loop-unit.invariant.0.same ∙ told) (c.loop-unit.invariant.1 meaning files done is told h)))

pub loop-unit-preserved : goal.loop-unit-preserved
loop-unit-preserved g c =
    let at = slice_get_read c.args.batch.now (length c.args.batch.now) c.loop-unit.unit-index c.unit-item.result refl (omega arith) c.unit-item.is in (
      reads_both _ _ _ _ _ _ _ _ _ _ _ _ c.loop-unit.invariant.0 c.in_ok-meet.ensures.reads,
      λ meaning files done is told h.
          subst (λ us. Holds meaning files (wanted_of c.args.sought.now) us c.meet.new.self) (taken_on done c.args.batch.now c.loop-unit.unit-index c.unit-item.result at)
          (c.in_ok-meet.ensures.met meaning files (done ++ take c.loop-unit.unit-index c.args.batch.now) is (c.loop-unit.invariant.0.same ∙ told) (c.loop-unit.invariant.1 meaning files done is told h)),
      λ all. c.in_ok-meet.ensures.placed (c.loop-unit.invariant.2 all),
      read_both (IsMain c.args.batch.now) _ _ _ c.loop-unit.invariant.3 (read_wider _ (IsMain c.args.batch.now) (λ path e. subst (IsMain c.args.batch.now) (sym e) (main_of c.args.batch.now c.loop-unit.unit-index c.unit-item.result at)) _ _ c.in_ok-meet.ensures.asked),
    )

pub returns-clause-met : goal.returns-clause-met
returns-clause-met g c meaning files done is told h =
    subst (λ us. Holds meaning files (wanted_of c.args.sought.now) (done ++ us) c.loop-unit.self) (take_all c.loop-unit.unit-index c.args.batch.now (omega arith)) (c.loop-unit.invariant.1 meaning files done is told h)

pub returns-in_err-meet-clause-cause : goal.returns-in_err-meet-clause-cause
returns-in_err-meet-clause-cause g c =
    let e : c.from_residual.result ≡ Err c.in_err-meet.field-0.0 = search rules in
    let at = slice_get_read c.args.batch.now (length c.args.batch.now) c.loop-unit.unit-index c.unit-item.result refl (omega arith) c.unit-item.is in
    let main = main_of c.args.batch.now c.loop-unit.unit-index c.unit-item.result at in
    subst (HasReadCause _) (sym e)
    (cause_more (Unit {0}) (Unit {0}) _ _ c.in_err-meet.field-0.0 (λ path h. (subst (IsMain c.args.batch.now) (sym h.0) main, rose_earlier _ _ _ (c.loop-unit.invariant.0.later path) h.1)) c.in_err-meet.ensures.cause)

pub returns-in_err-meet-clause-asked : goal.returns-in_err-meet-clause-asked
returns-in_err-meet-clause-asked g c =
    let at = slice_get_read c.args.batch.now (length c.args.batch.now) c.loop-unit.unit-index c.unit-item.result refl (omega arith) c.unit-item.is in
    read_both (IsMain c.args.batch.now) _ _ _ c.loop-unit.invariant.3 (read_wider _ (IsMain c.args.batch.now) (λ path e. subst (IsMain c.args.batch.now) (sym e) (main_of c.args.batch.now c.loop-unit.unit-index c.unit-item.result at)) _ _ c.in_err-meet.ensures.asked)
