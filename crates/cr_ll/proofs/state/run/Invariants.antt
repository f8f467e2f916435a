use Rattle.std.proofs.Common.{◌≡◌, ◌≤◌, None, List, length}
use Rattle.cr_ll.specs.Guards.{terminals}
use Rattle.cr_ll.specs.Derivation.{Item}
use Rattle.cr_ll.specs.Machine.{Config, Run}
use Rattle.cr_ll.specs.Running.{config_of}
use Rattle.cr_ll.specs.Weights.{weight}
use Rattle.cr_ll.proofs.state.run.Given as goal

abbrev pub invariant-moves : goal.invariant-moves
invariant-moves l =
    record {
      same : (xs : List Item) (e : Config) → Run (terminals l.names l.tokens) (config_of l.m) xs e → Run (terminals l.names l.tokens) (config_of l.fn.m) xs e;
      idle : l.m.waits ≡ None;
      kept : l.m.waits ≡ l.fn.m.waits;
      sound : l.m.fault ≡ l.fn.m.fault;
      placed : l.m.place ≤ length l.tokens;
    }

abbrev pub decreases-moves : goal.decreases-moves
decreases-moves l = weight l.m.stack
