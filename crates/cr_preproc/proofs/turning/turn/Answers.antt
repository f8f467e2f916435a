use Rattle.std.proofs.Common.{sym, ◌∙◌, subst}
use Rattle.cr_preproc.specs.declared.turning.Doing.{Doing}
use Rattle.cr_phase4.specs.Search.{world_of}
use Rattle.cr_preproc.specs.Turning.{IsTurned}
use Rattle.cr_preproc.specs.Falling.{Falls}
use Rattle.cr_preproc.proofs.turning.turn.Goals as goal

pub returns-in_ok-turned-in-Reads : goal.returns-in_ok-turned-in-Reads
returns-in_ok-turned-in-Reads c = record {
  turned =
      subst (λ (d : Doing). IsTurned (world_of c.args.context.snapshot.now) c.args.context.unit.now c.args.context.snapshot.now c.args.progress.now c.read.new.progress c.args.file.now c.read.new.file d c.read.new.doing c.in_ok-turned-in-Reads.turned)
      (c.replace.ensures.after ∙ sym c.in-Reads.is ∙ c.replace.ensures.value) (c.in_ok-turned-in-Reads.ensures.turned c.args.context.unit.now);
  falls =
      subst (λ (d : Doing). Falls c.args.progress.now c.read.new.progress c.args.file.now c.read.new.file d c.read.new.doing c.in_ok-turned-in-Reads.turned)
      (c.replace.ensures.after ∙ sym c.in-Reads.is ∙ c.replace.ensures.value) c.in_ok-turned-in-Reads.ensures.falls;
}

pub returns-in_ok-turned-in-Expands : goal.returns-in_ok-turned-in-Expands
returns-in_ok-turned-in-Expands c = record {
  turned =
      subst (λ (d : Doing). IsTurned (world_of c.args.context.snapshot.now) c.args.context.unit.now c.args.context.snapshot.now c.args.progress.now c.run_turn.new.progress c.args.file.now c.run_turn.new.file d c.run_turn.new.doing c.in_ok-turned-in-Expands.turned)
      (sym c.in-Expands.is ∙ c.replace.ensures.value) (c.in_ok-turned-in-Expands.ensures.turned);
  falls =
      subst (λ (d : Doing). Falls c.args.progress.now c.run_turn.new.progress c.args.file.now c.run_turn.new.file d c.run_turn.new.doing c.in_ok-turned-in-Expands.turned)
      (sym c.in-Expands.is ∙ c.replace.ensures.value) c.in_ok-turned-in-Expands.ensures.falls;
}

pub returns-in_ok-turned-in-Decides : goal.returns-in_ok-turned-in-Decides
returns-in_ok-turned-in-Decides c = record {
  turned =
      subst (λ (d : Doing). IsTurned (world_of c.args.context.snapshot.now) c.args.context.unit.now c.args.context.snapshot.now c.args.progress.now c.decide_turn.new.progress c.args.file.now c.decide_turn.new.file d c.decide_turn.new.doing c.in_ok-turned-in-Decides.turned)
      (sym c.in-Decides.is ∙ c.replace.ensures.value) (c.in_ok-turned-in-Decides.ensures.turned (world_of c.args.context.snapshot.now) c.args.context.unit.now c.args.context.snapshot.now c.requires.working.file c.requires.working.line);
  falls =
      subst (λ (d : Doing). Falls c.args.progress.now c.decide_turn.new.progress c.args.file.now c.decide_turn.new.file d c.decide_turn.new.doing c.in_ok-turned-in-Decides.turned)
      (sym c.in-Decides.is ∙ c.replace.ensures.value) c.in_ok-turned-in-Decides.ensures.falls;
}

pub returns-in_ok-turned-in-Includes : goal.returns-in_ok-turned-in-Includes
returns-in_ok-turned-in-Includes c = record {
  turned =
      subst (λ (d : Doing). IsTurned (world_of c.args.context.snapshot.now) c.args.context.unit.now c.args.context.snapshot.now c.args.progress.now c.include_turn.new.progress c.args.file.now c.include_turn.new.file d c.include_turn.new.doing c.in_ok-turned-in-Includes.turned)
      (sym c.in-Includes.is ∙ c.replace.ensures.value) (c.in_ok-turned-in-Includes.ensures.turned);
  falls =
      subst (λ (d : Doing). Falls c.args.progress.now c.include_turn.new.progress c.args.file.now c.include_turn.new.file d c.include_turn.new.doing c.in_ok-turned-in-Includes.turned)
      (sym c.in-Includes.is ∙ c.replace.ensures.value) c.in_ok-turned-in-Includes.ensures.falls;
}

pub returns-in_ok-turned-in-Looks : goal.returns-in_ok-turned-in-Looks
returns-in_ok-turned-in-Looks c = record {
  turned =
      subst (λ (d : Doing). IsTurned (world_of c.args.context.snapshot.now) c.args.context.unit.now c.args.context.snapshot.now c.args.progress.now c.look_turn.new.progress c.args.file.now c.look_turn.new.file d c.look_turn.new.doing c.in_ok-turned-in-Looks.turned)
      (sym c.in-Looks.is ∙ c.replace.ensures.value) (c.in_ok-turned-in-Looks.ensures.turned c.args.context.unit.now);
  falls =
      subst (λ (d : Doing). Falls c.args.progress.now c.look_turn.new.progress c.args.file.now c.look_turn.new.file d c.look_turn.new.doing c.in_ok-turned-in-Looks.turned)
      (sym c.in-Looks.is ∙ c.replace.ensures.value) c.in_ok-turned-in-Looks.ensures.falls;
}
