use Rattle.std.proofs.Common.{rules, ◌≡◌, ◌∙◌, sym, ap, subst, arith, take, drop, None, ◌++◌, ◌*◌, ◌+◌, ◌<◌, suc}
use Rattle.std.specs.Prelude.{Err}
use Rattle.std.proofs.lemmas.List.{take_all}
use Rattle.cr_run.specs.Units.{mains, IsMain}
use Rattle.cr_run.specs.Survey.{batches, refusal_below, refusal_of_batch, refusal_of_units, first_unbuilt}
use Rattle.cr_run.specs.Reading.{HasReadCause}
use Rattle.cr_run.specs.Held.{wanted_of, Holds, Met, AllMet, Settled, Surveys}
use Rattle.cr_world.proofs.Histories.{read_both, read_wider}
use Rattle.cr_run.proofs.Causes.{reads_both, cause_more, rose_earlier}
use Rattle.cr_run.proofs.Batches.{batch_refuses, unit_refuses, none_yet, all_met, up_to, batch_is, batch_starts, batches_end, main_in_slice}
use Rattle.cr_run.proofs.survey.Survey.read_units.Goals as goal

pub returns-in_err-read_batch-clause-surveyed : goal.returns-in_err-read_batch-clause-surveyed
returns-in_err-read_batch-clause-surveyed g c meaning files is told h =
    let wanted = wanted_of c.args.sought.now in
    let e : c.from_residual.result ≡ Err c.in_err-read_batch.field-0.0 = search rules in
    let inv = c.loop-n.invariant.1 meaning files is told h in
    let lt : c.loop-n.n < batches c.args.units.now = omega (arith, c.div_ceil-n-end.ensures, c.loop-n-test.true) in
    let batch = batch_is c.args.units.now c.loop-n.n c.min-end.result c.min-end.ensures (batch_starts c.args.units.now c.loop-n.n lt) in
    subst (Surveys meaning files wanted c.args.units.now c.read_batch.new.self) (sym e)
    (batch_refuses meaning files wanted c.args.units.now c.loop-n.n c.in_err-read_batch.field-0.0 c.read_batch.new.self lt inv.1
    (subst (λ b. Met meaning files wanted (take (64 * c.loop-n.n) c.args.units.now ++ b) c.read_batch.new.self (Err c.in_err-read_batch.field-0.0)) batch
    (c.in_err-read_batch.ensures.met meaning files (take (64 * c.loop-n.n) c.args.units.now) is (c.loop-n.invariant.0.same ∙ told) inv.0)))

pub returns-in_err-settle-clause-surveyed : goal.returns-in_err-settle-clause-surveyed
returns-in_err-settle-clause-surveyed g c meaning files is told h =
    let wanted = wanted_of c.args.sought.now in
    let e : c.from_residual-in_err-settle.result ≡ Err c.in_err-settle.field-0.0 = search rules in
    let inv = c.loop-n.invariant.1 meaning files is told h in
    let lt : c.loop-n.n < batches c.args.units.now = omega (arith, c.div_ceil-n-end.ensures, c.loop-n-test.true) in
    let batch = batch_is c.args.units.now c.loop-n.n c.min-end.result c.min-end.ensures (batch_starts c.args.units.now c.loop-n.n lt) in
    let met = subst (λ b. Holds meaning files wanted (take (64 * c.loop-n.n) c.args.units.now ++ b) c.read_batch.new.self) batch
    (c.in_ok-read_batch.ensures.met meaning files (take (64 * c.loop-n.n) c.args.units.now) is (c.loop-n.invariant.0.same ∙ told) inv.0) in
    subst (Surveys meaning files wanted c.args.units.now c.read_batch.new.self) (sym e)
    (unit_refuses meaning files wanted c.args.units.now c.loop-n.n c.in_err-settle.field-0.0 c.read_batch.new.self lt inv.1 met
    (subst (λ b. Settled (first_unbuilt meaning files wanted.new b) (Err c.in_err-settle.field-0.0)) batch
    (c.in_err-settle.ensures.settled meaning files wanted (take (64 * c.loop-n.n) c.args.units.now ++ take 64 (drop (64 * c.loop-n.n) c.args.units.now)) met
    (subst (λ b. AllMet wanted.source (take (64 * c.loop-n.n) c.args.units.now ++ take 64 (drop (64 * c.loop-n.n) c.args.units.now)) (mains b)) (sym batch) (all_met meaning files wanted c.args.units.now c.loop-n.n)))))

pub loop-n-preserved : goal.loop-n-preserved
loop-n-preserved g c = (
  reads_both _ _ _ _ _ _ _ _ _ _ _ _ c.loop-n.invariant.0 c.in_ok-read_batch.ensures.reads,
  λ meaning files is told h.
      let wanted = wanted_of c.args.sought.now in
      let inv = c.loop-n.invariant.1 meaning files is told h in
      let lt : c.loop-n.n < batches c.args.units.now = omega (arith, c.div_ceil-n-end.ensures, c.loop-n-test.true) in
      let batch = batch_is c.args.units.now c.loop-n.n c.min-end.result c.min-end.ensures (batch_starts c.args.units.now c.loop-n.n lt) in
      let met = subst (λ b. Holds meaning files wanted (take (64 * c.loop-n.n) c.args.units.now ++ b) c.read_batch.new.self) batch
      (c.in_ok-read_batch.ensures.met meaning files (take (64 * c.loop-n.n) c.args.units.now) is (c.loop-n.invariant.0.same ∙ told) inv.0) in
      let none = subst (λ b. first_unbuilt meaning files wanted.new b ≡ None) batch
      (c.in_ok-settle.ensures.settled meaning files wanted (take (64 * c.loop-n.n) c.args.units.now ++ take 64 (drop (64 * c.loop-n.n) c.args.units.now)) met
      (subst (λ b. AllMet wanted.source (take (64 * c.loop-n.n) c.args.units.now ++ take 64 (drop (64 * c.loop-n.n) c.args.units.now)) (mains b)) (sym batch) (all_met meaning files wanted c.args.units.now c.loop-n.n))) in
      let next : 64 * c.loop-n.n + 64 ≡ 64 * (c.loop-n.n + 1) = omega arith in
      let one : suc c.loop-n.n ≡ c.loop-n.n + 1 = omega arith in (
        subst (λ us. Holds meaning files wanted us c.read_batch.new.self) (up_to meaning files wanted c.args.units.now c.loop-n.n ∙ ap (λ k. take k c.args.units.now) next) met,
        subst (λ k. refusal_below (refusal_of_batch meaning files wanted.source wanted.new c.args.units.now) k ≡ None) one (none_yet meaning files wanted c.args.units.now c.loop-n.n c.read_batch.new.self inv.1 met none),
      ),
  λ all. c.in_ok-read_batch.ensures.placed (c.loop-n.invariant.2 all),
  read_both (IsMain c.args.units.now) _ _ _ c.loop-n.invariant.3 (read_wider _ (IsMain c.args.units.now) (λ path h. main_in_slice _ _ c.args.units.now path h) _ _ c.in_ok-read_batch.ensures.asked),
)

pub returns-clause-surveyed : goal.returns-clause-surveyed
unfolding refusal_of_units
returns-clause-surveyed g c meaning files is told h =
    let wanted = wanted_of c.args.sought.now in
    let inv = c.loop-n.invariant.1 meaning files is told h in
    let last : c.loop-n.n ≡ batches c.args.units.now = omega (arith, c.div_ceil-n-end.ensures, c.loop-n-test.false) in (
      subst (λ us. Holds meaning files wanted us c.loop-n.self) (take_all (64 * c.loop-n.n) c.args.units.now (batches_end c.args.units.now c.loop-n.n (omega (arith, last)))) inv.0,
      subst (λ k. refusal_below (refusal_of_batch meaning files wanted.source wanted.new c.args.units.now) k ≡ None) last inv.1,
    )

pub returns-in_err-read_batch-clause-cause : goal.returns-in_err-read_batch-clause-cause
returns-in_err-read_batch-clause-cause g c =
    let e : c.from_residual.result ≡ Err c.in_err-read_batch.field-0.0 = search rules in
    subst (HasReadCause _) (sym e)
    (cause_more (Unit {0}) (Unit {0}) _ _ c.in_err-read_batch.field-0.0 (λ path h. (main_in_slice _ _ c.args.units.now path h.0, rose_earlier _ _ _ (c.loop-n.invariant.0.later path) h.1)) c.in_err-read_batch.ensures.cause)

pub returns-in_err-read_batch-clause-asked : goal.returns-in_err-read_batch-clause-asked
returns-in_err-read_batch-clause-asked g c =
    read_both (IsMain c.args.units.now) _ _ _ c.loop-n.invariant.3 (read_wider _ (IsMain c.args.units.now) (λ path h. main_in_slice _ _ c.args.units.now path h) _ _ c.in_err-read_batch.ensures.asked)

pub returns-in_err-settle-clause-asked : goal.returns-in_err-settle-clause-asked
returns-in_err-settle-clause-asked g c =
    read_both (IsMain c.args.units.now) _ _ _ c.loop-n.invariant.3 (read_wider _ (IsMain c.args.units.now) (λ path h. main_in_slice _ _ c.args.units.now path h) _ _ c.in_ok-read_batch.ensures.asked)
