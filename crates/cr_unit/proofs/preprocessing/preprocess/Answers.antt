use Rattle.std.proofs.Common.{suc, subst}
use Rattle.cr_preproc.specs.declared.preproc.PreTurn.TheVariants as pre
use Rattle.cr_preproc.specs.Preprocs.{IsPreStep, Begins, Steps}
use Rattle.cr_unit.proofs.Left.{steps-fall}
use Rattle.cr_unit.proofs.Wholes.{whole_parts}
use Rattle.cr_unit.proofs.preprocessing.preprocess.Goals as goal

pub steps-init : goal.steps-init
steps-init c = record { fresh = c.in_ok-preproc.ensures; run = (0, Begins); good = c.in_ok-preproc.ensures.good c.args.snapshot.now }

pub steps-smaller : goal.steps-smaller
steps-smaller c =
    steps-fall c.args.snapshot.now c.steps.preproc c.step.new.self (subst (IsPreStep c.args.snapshot.now c.steps.preproc c.step.new.self) c.in-More.is c.in_ok-step.ensures.step)

pub steps-preserved : goal.steps-preserved
steps-preserved c = record {
  fresh = c.steps.invariant.fresh;
  run = (
    suc c.steps.invariant.run.0,
    Steps c.steps.invariant.run.1 c.step.new.self (subst (IsPreStep c.args.snapshot.now c.steps.preproc c.step.new.self) c.in-More.is c.in_ok-step.ensures.step),
  );
  good = c.in_ok-step.ensures.good;
}

pub returns-in-Needs : goal.returns-in-Needs
returns-in-Needs c =
    let r =
    (c.steps_preprocess_the_unit.ensures.ends c.args.unit.now c.args.old.now c.args.new.now c.args.snapshot.now c.in_ok-preproc.preproc c.steps.preproc c.step.new.self c.steps.invariant.run.0
    c.steps.invariant.fresh c.steps.invariant.run.1).2
    c.in-Needs.paths (subst (IsPreStep c.args.snapshot.now c.steps.preproc c.step.new.self) c.in-Needs.is c.in_ok-step.ensures.step)
    in
    (r.0, r.1)

pub returns-in-Ill : goal.returns-in-Ill
returns-in-Ill c =
    let r =
    (c.steps_preprocess_the_unit.ensures.ends c.args.unit.now c.args.old.now c.args.new.now c.args.snapshot.now c.in_ok-preproc.preproc c.steps.preproc c.step.new.self c.steps.invariant.run.0
    c.steps.invariant.fresh c.steps.invariant.run.1).1
    (record { cause = c.in-Ill.cause; place = c.in-Ill.place }) (subst (IsPreStep c.args.snapshot.now c.steps.preproc c.step.new.self) c.in-Ill.is c.in_ok-step.ensures.step)
    in
    (r.0, r.1)

pub returns : goal.returns
returns c =
    let step : IsPreStep c.args.snapshot.now c.steps.preproc c.step.new.self pre.Done = subst (IsPreStep c.args.snapshot.now c.steps.preproc c.step.new.self) c.in-Done.is c.in_ok-step.ensures.step in
    let r =
    (c.steps_preprocess_the_unit.ensures.ends c.args.unit.now c.args.old.now c.args.new.now c.args.snapshot.now c.in_ok-preproc.preproc c.steps.preproc c.step.new.self c.steps.invariant.run.0
    c.steps.invariant.fresh c.steps.invariant.run.1).0
    step
    in (
      r.0,
      r.1,
      r.2,
      whole_parts c.args.old.now c.args.new.now c.args.snapshot.now c.step.new.self r.1 c.steps.invariant.run.0 r.3 c.in_ok-step.ensures.good step.leads.0 c.into_parts-names.result c.into_parts-names.ensures.parts,
    )
