use Rattle.cr_ll.specs.Guards.{terminals}
use Rattle.std.proofs.Common.{Some, refl, ◌∙◌}
use Rattle.cr_ll.specs.Machine.{opens}
use Rattle.cr_ll.specs.Running.{config_of}
use Rattle.cr_ll.proofs.Stepping.{step_gave, step_failed}
use Rattle.cr_ll.proofs.Weight.{opens_lighter}
use Rattle.cr_ll.proofs.state.run.Goals as goal

pub returns-in-Gave-clause-steps : goal.returns-in-Gave-clause-steps
returns-in-Gave-clause-steps c =
    step_gave (terminals c.args.names.now c.args.tokens.now) c.args.m.now c.moves.m c.advance.new.m c.in-Gave.e c.moves.invariant.same c.moves.invariant.kept c.moves.invariant.sound c.in-Gave.ensures.moves

pub moves-smaller : goal.moves-smaller
moves-smaller c = opens_lighter (terminals c.args.names.now c.args.tokens.now) (config_of c.moves.m) (config_of c.advance.new.m) c.in-Opened.ensures.moves.0

pub moves-preserved : goal.moves-preserved
moves-preserved c =
    record {
      same = λ xs e run. c.moves.invariant.same xs e (opens c.in-Opened.ensures.moves.0 run);
      idle = c.in-Opened.ensures.moves.1.0 ∙ c.moves.invariant.idle;
      kept = c.in-Opened.ensures.moves.1.0 ∙ c.moves.invariant.kept;
      sound = c.in-Opened.ensures.moves.1.1 ∙ c.moves.invariant.sound;
      placed = c.in-Opened.ensures.placed;
    }

pub returns-in-Failed-clause-steps : goal.returns-in-Failed-clause-steps
returns-in-Failed-clause-steps c =
    step_failed (terminals c.args.names.now c.args.tokens.now) c.args.m.now c.moves.m c.advance.new.m
    (record { stack = c.advance.new.m.stack; place = c.advance.new.m.place; refused = c.advance.new.m.refused; waits = c.advance.new.m.waits; fault = Some c.in-Failed.fault })
    c.in-Failed.fault c.moves.invariant.same c.moves.invariant.kept c.in-Failed.ensures.moves refl refl refl
