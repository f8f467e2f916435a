use Rattle.std.proofs.Common.{◌∙◌, length, arith}
use Rattle.std.proofs.lemmas.Result.{err_from_is_err_and}
use Rattle.cr_world.proofs.Histories.{read_both, read_wider}
use Rattle.cr_survey.specs.Batches.{LooksFor, IsBatch, AreSurveyed}
use Rattle.std.specs.FinSet.{empty}
use Rattle.cr_survey.proofs.Parts.{nonzero, zero_at, in_front, in_back, looks_wider, stops_at, goes_at, done_at, comes_err}
use Rattle.cr_survey.proofs.units.survey.Goals as goal

pub returns-in_err-survey_batch-clause-asked : goal.returns-in_err-survey_batch-clause-asked
returns-in_err-survey_batch-clause-asked g c =
    read_both (LooksFor c.args.units.now) _ _ _ c.loop-rest.invariant.asked
    (read_wider (LooksFor c.split_at.result.0.now) (LooksFor c.args.units.now) (looks_wider c.split_at.result.0.now c.args.units.now (λ u h. c.loop-rest.invariant.part u (in_front c.min.result c.loop-rest.rest.now c.split_at.result.0.now u c.split_at.ensures.front h))) _ _ c.in_err-survey_batch.ensures.asked)

pub returns-in_err-survey_batch-clause-surveyed : goal.returns-in_err-survey_batch-clause-surveyed
returns-in_err-survey_batch-clause-surveyed g c files told =
    let p = err_from_is_err_and c.from_residual.result c.from_residual.ensures.1 in
    let some = nonzero c.is_empty.result (length c.loop-rest.rest.now) c.is_empty.ensures c.loop-rest-test.true in
    comes_err (IsBatch c.args.renaming.old.now c.args.renaming.new.now files c.split_at.result.0.now c.loop-rest.snapshot c.loop-rest.facts) (AreSurveyed c.args.renaming.old.now c.args.renaming.new.now files c.args.units.now c.args.snapshot.now empty) _ c.from_residual.result _ p.0 p.1 p.2
    (λ d h. c.loop-rest.invariant.surveyed files told _ (stops_at c.args.renaming.old.now c.args.renaming.new.now files c.loop-rest.rest.now c.split_at.result.0.now c.min.result c.loop-rest.snapshot c.loop-rest.facts d c.split_at.ensures.front c.min.ensures some h))
    (c.in_err-survey_batch.ensures.surveyed files (c.loop-rest.invariant.reads.same ∙ told))

pub loop-rest-preserved : goal.loop-rest-preserved
loop-rest-preserved g c =
    let some = nonzero c.is_empty.result (length c.loop-rest.rest.now) c.is_empty.ensures c.loop-rest-test.true in
    record {
      reads = record {
        same = c.in_ok-survey_batch.ensures.reads.same ∙ c.loop-rest.invariant.reads.same;
        later = λ path. omega (arith, c.in_ok-survey_batch.ensures.reads.later path, c.loop-rest.invariant.reads.later path);
        stay = λ path. c.in_ok-survey_batch.ensures.reads.stay path ∙ c.loop-rest.invariant.reads.stay path;
        none = c.in_ok-survey_batch.ensures.reads.none ∙ c.loop-rest.invariant.reads.none;
      };
      asked =
          read_both (LooksFor c.args.units.now) _ _ _ c.loop-rest.invariant.asked
          (read_wider (LooksFor c.split_at.result.0.now) (LooksFor c.args.units.now) (looks_wider c.split_at.result.0.now c.args.units.now (λ u h. c.loop-rest.invariant.part u (in_front c.min.result c.loop-rest.rest.now c.split_at.result.0.now u c.split_at.ensures.front h))) _ _ c.in_ok-survey_batch.ensures.asked);
      room = omega (arith, c.loop-rest.invariant.room, c.in_ok-survey_batch.ensures.apart, c.split_at.ensures.front_len, c.split_at.ensures.back_len, c.min.ensures);
      part = λ u h. c.loop-rest.invariant.part u (in_back c.min.result c.loop-rest.rest.now c.split_at.result.1.now u c.split_at.ensures.back h);
      surveyed = λ files told end h. c.loop-rest.invariant.surveyed files told end (goes_at c.args.renaming.old.now c.args.renaming.new.now files c.loop-rest.rest.now c.split_at.result.0.now c.split_at.result.1.now c.min.result c.loop-rest.snapshot c.loop-rest.facts _ end c.split_at.ensures.front c.split_at.ensures.back c.min.ensures some (c.in_ok-survey_batch.ensures.surveyed files (c.loop-rest.invariant.reads.same ∙ told)) h);
    }

pub returns-clause-surveyed : goal.returns-clause-surveyed
returns-clause-surveyed g c files told =
    c.loop-rest.invariant.surveyed files told _ (done_at c.args.renaming.old.now c.args.renaming.new.now files c.loop-rest.rest.now c.loop-rest.snapshot c.loop-rest.facts (zero_at c.is_empty.result (length c.loop-rest.rest.now) c.is_empty.ensures c.loop-rest-test.false))
