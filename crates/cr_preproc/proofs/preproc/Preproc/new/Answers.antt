use Rattle.std.proofs.Common.{refl, None}
use Rattle.cr_preproc.specs.declared.preproc.Firsts.TheVariants as firsts
use Rattle.cr_preproc.specs.declared.turning.Doing.TheVariants as doing
use Rattle.cr_preproc.proofs.FirstTurns.{fresh_left}
use Rattle.cr_preproc.proofs.preproc.Preproc.new.Goals as goal

pub returns : goal.returns
returns c = record {
  going = refl;
  progress = c.in_ok-new.ensures.good;
  good = λ files. record { sound = (c.in_ok-new.ensures.good, (refl, c.new-2.ensures.items)); room = c.in_ok-new.ensures.room };
  left = λ files. fresh_left files (record { alloc = c.args.alloc; unit = c.in_ok-copy.field-0; progress = c.in_ok-new.field-0; file = None; outer = c.new-2.result; firsts = firsts.Words; doing = doing.Reads; ending = None }) c.args.unit.now refl refl refl c.in_ok-copy.ensures c.in_ok-new.ensures.state;
  tokens = c.in_ok-new.ensures.tokens;
  trace = c.in_ok-new.ensures.trace;
  old_text = c.in_ok-new.ensures.old;
  new_text = c.in_ok-new.ensures.new;
}
