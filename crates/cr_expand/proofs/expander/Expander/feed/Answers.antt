use Rattle.std.proofs.Common.{List, refl}
use Rattle.cr_macros.specs.declared.macros.Seen.{Seen}
use Rattle.cr_expand.specs.declared.machine.Machine.{Machine}
use Rattle.cr_macros.specs.Expansion.{expand}
use Rattle.cr_expand.specs.Ahead.{next_token}
use Rattle.cr_expand.specs.declared.closing.Ahead.{Ahead}
use Rattle.cr_expand.specs.declared.closing.Search.{Search}
use Rattle.cr_expand.proofs.Fresh.{fed_gives, fed_machine, fed_runs}
use Rattle.cr_expand.proofs.expander.Expander.feed.Goals as goal

pub returns-in-Ok-clause-fed : goal.returns-in-Ok-clause-fed
returns-in-Ok-clause-fed c =
    let old : Machine = c.args.self.now.machine in
    let now : Machine = record old { slots = c.put_back.new.slots } in
    let after : Ahead = record c.args.self.now.ahead { groups = c.put_back.new.groups } in
    record {
      gives = λ names macros more. fed_gives expand names macros old now c.args.tokens.now more c.in-Ok.ensures.slots refl refl refl refl;
      finds = λ names macros more. fed_gives next_token names macros old now c.args.tokens.now more c.in-Ok.ensures.slots refl refl refl refl;
      running = λ names macros r t. fed_runs names macros old now c.args.self.now.ahead after c.args.self.now.fault c.args.tokens.now c.in-Ok.ensures.slots (refl {A = Search}) c.in-Ok.ensures.groups (fed_machine names macros old now c.args.tokens.now c.in-Ok.ensures.slots refl refl refl refl refl t) r;
      seen = refl {A = List Seen};
      used = refl;
      same = (refl, refl, refl, refl);
      fault = refl;
    }
