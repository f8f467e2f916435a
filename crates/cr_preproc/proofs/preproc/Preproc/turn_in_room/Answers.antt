use Rattle.std.proofs.Common.{refl}
use Rattle.cr_preproc.proofs.UnitSteps.{working_is}
use Rattle.cr_preproc.proofs.preproc.Preproc.turn_in_room.Goals as goal

pub returns-in_ok-step-in-Some : goal.returns-in_ok-step-in-Some
returns-in_ok-step-in-Some c = record {
  turn =
      c.in_ok-step-in-Some.ensures.turn c.args.snapshot.now c.args.self.now c.in-Some.file c.turn.new.file (record { alloc = refl; unit = refl; outer = refl; firsts = refl; going = c.requires.going; ending = c.requires.going }) c.in-Some.is refl
      (working_is c.args.snapshot.now c.args.self.now c.in-Some.file c.requires.going c.in-Some.is c.requires.good).1 c.in_ok-turned-in-Some.ensures.turned;
  falls =
      c.in_ok-step-in-Some.ensures.falls c.args.self.now c.in-Some.file c.turn.new.file (record { alloc = refl; unit = refl; outer = refl; firsts = refl; going = c.requires.going; ending = c.requires.going }) c.in-Some.is refl
      c.in_ok-turned-in-Some.ensures.falls;
}
