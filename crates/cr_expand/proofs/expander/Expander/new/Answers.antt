use Rattle.std.proofs.Common.{◌≡◌, ℕ, List, [], false, refl, ap}
use Rattle.cr_macros.specs.Tokens.{Text}
use Rattle.cr_expand.specs.declared.slot.Slot.{Slot}
use Rattle.cr_expand.specs.Groups.{AreNoted}
use Rattle.cr_expand.proofs.Closes.{searched_first}
use Rattle.cr_expand.specs.declared.machine.Machine.{Machine}
use Rattle.cr_macros.specs.Expansion.{expand}
use Rattle.cr_expand.specs.Ahead.{next_token}
use Rattle.cr_expand.proofs.Fresh.{fresh_gives, fresh_machine}
use Rattle.cr_expand.proofs.expander.Expander.new.Goals as goal

nothing : (names : List Text) (slots : List Slot) (groups : List ℕ) → slots ≡ [] → groups ≡ [] → AreNoted names slots groups
nothing names slots groups a b = rw (a, b) (refl, tt)

pub returns : goal.returns
returns c =
    let m : Machine = record { alloc = c.args.alloc; file = c.args.file; slots = c.new.result; frames = c.new-2.result; sets = c.new-3.result; notes = record { from = c.args.old; to = c.args.new; seen = c.new-4.result }; used = c.args.work; finished = false } in
    record {
      gives = λ names macros more. fresh_gives expand names macros m more c.new.ensures.items c.new-2.ensures.items;
      finds = λ names macros more. fresh_gives next_token names macros m more c.new.ensures.items c.new-2.ensures.items;
      running = λ names macros d a b f. (fresh_machine names macros m c.new.ensures.items c.new-2.ensures.items c.new-3.ensures c.requires d a b f, searched_first names c.new.result.items c.new-5.result.search (ap (λ s. s.at) c.new-5.ensures.search, ap (λ s. s.depth) c.new-5.ensures.search), nothing names c.new.result.items c.new-5.result.groups.items c.new.ensures.items c.new-5.ensures.groups);
      seen = c.new-4.ensures.items;
      watched = (refl, refl);
      literal = refl;
      used = refl;
      finished = refl;
      fault = refl;
    }
