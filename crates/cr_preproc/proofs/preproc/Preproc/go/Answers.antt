use Rattle.std.proofs.Common.{subst}
use Rattle.cr_preproc.specs.Falling.{TurnFalls}
use Rattle.cr_preproc.specs.Preprocs.{IsTurn}
use Rattle.cr_preproc.proofs.UnitSteps.{silent_turn, ends_answer, turn_answer, going_is}
use Rattle.cr_preproc.proofs.preproc.Preproc.go.Goals as goal

pub returns-in-Some-clause-step : goal.returns-in-Some-clause-step
returns-in-Some-clause-step c =
    ends_answer c.args.snapshot.now c.args.self.now c.turns.self c.turn.new.self (going_is c.args.snapshot.now c.args.self.now c.requires.going c.requires.good.sound).0 c.turns.invariant.silent c.in-Some.ending
    (subst (IsTurn c.args.snapshot.now c.turns.self c.turn.new.self) c.in-Ok-None.field-0-is c.in-Ok-None.ensures.turn) c.in-Some.is c.answer.result c.answer.ensures

pub returns-in-Ok-Some-clause-step : goal.returns-in-Ok-Some-clause-step
returns-in-Ok-Some-clause-step c =
    turn_answer c.args.snapshot.now c.args.self.now c.turns.self c.turn.new.self (going_is c.args.snapshot.now c.args.self.now c.requires.going c.requires.good.sound).0 c.turns.invariant.silent c.in-Ok-Some.turn c.requires.going
    (subst (IsTurn c.args.snapshot.now c.turns.self c.turn.new.self) c.in-Ok-Some.field-0-is c.in-Ok-Some.ensures.turn)

pub turns-preserved : goal.turns-preserved
turns-preserved c = record {
  silent =
      silent_turn c.args.snapshot.now c.args.self.now c.turns.self c.turn.new.self (going_is c.args.snapshot.now c.args.self.now c.requires.going c.requires.good.sound).0 c.turns.invariant.silent
      (subst (IsTurn c.args.snapshot.now c.turns.self c.turn.new.self) c.in-Ok-None.field-0-is c.in-Ok-None.ensures.turn) c.in_default.is;
  room = c.in-Ok-None.ensures.room;
}

pub turns-smaller : goal.turns-smaller
turns-smaller c = (subst (TurnFalls c.turns.self c.turn.new.self) c.in-Ok-None.field-0-is c.in-Ok-None.ensures.falls) c.in_default.is

pub returns-clause-good : goal.returns-clause-good
returns-clause-good c = c.run_out.ensures.good c.args.snapshot.now
