use Rattle.std.proofs.Common.{ap, ◌∙◌, subst, sym, map, Err}
use Rattle.cr_survey.specs.Batches.{Tell, IsBatch}
use Rattle.cr_survey.specs.Running.{AreEnds, unit_of}
use Rattle.cr_survey.proofs.Runs.{comes_on}
use Rattle.cr_survey.proofs.Parts.{words_over, growth_over, batch_ends}
use Rattle.cr_survey.proofs.batch.survey_batch.Goals as goal

pub returns-in-Err-clause-surveyed : goal.returns-in-Err-clause-surveyed
returns-in-Err-clause-surveyed g c files told =
    words_over c.args.renaming.old.now c.args.renaming.new.now files c.args.batch.now c.args.snapshot.now c.args.facts.now c.in-Err.fault c.of_words.result (λ e. c.in-Err.ensures.limit (ap (λ z. Err z) e)) c.of_words.ensures

pub returns-in-Ok-clause-surveyed : goal.returns-in-Ok-clause-surveyed
returns-in-Ok-clause-surveyed g c files told =
    comes_on (Tell c.args.renaming.old.now c.args.renaming.new.now c.run_batch.new.snapshot (map unit_of c.deref.result.now) c.args.facts.now) (IsBatch c.args.renaming.old.now c.args.renaming.new.now files c.args.batch.now c.args.snapshot.now c.args.facts.now) _ c.tell.result
    (λ x t. batch_ends c.args.renaming.old.now c.args.renaming.new.now files c.args.batch.now (map unit_of c.deref.result.now) c.args.snapshot.now _ c.run_batch.new.snapshot c.args.facts.now x c.in_default.ensures.ok (c.in-Ok.ensures.grown files told) (ap (map unit_of) c.deref.ensures.value ∙ c.in-Ok.ensures.units) t)
    (c.tell.ensures.told c.args.renaming.old.now c.args.renaming.new.now (subst (AreEnds c.run_batch.new.snapshot c.args.renaming.old.now c.args.renaming.new.now) (sym c.deref.ensures.value) c.in-Ok.ensures.ends))

pub returns-in-Err-run_batch-clause-surveyed : goal.returns-in-Err-run_batch-clause-surveyed
returns-in-Err-run_batch-clause-surveyed g c files told =
    growth_over c.args.renaming.old.now c.args.renaming.new.now files c.args.batch.now c.args.snapshot.now _ c.args.facts.now c.in-Err-run_batch.fault c.of_growth.result c.in_default.ensures.ok (λ e. c.in-Err-run_batch.ensures.limit files told (ap (λ z. Err z) e)) c.of_growth.ensures
