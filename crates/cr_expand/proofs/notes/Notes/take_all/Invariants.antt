use Rattle.std.proofs.Common.{◌≡◌, ◌++◌, take}
use Rattle.std.specs.Prelude.{flat_map}
use Rattle.cr_macros.specs.Tokens.{takes}
use Rattle.cr_expand.specs.HideSets.{Sets}
use Rattle.cr_expand.specs.Held.{noted, watch_of, all_held}
use Rattle.cr_expand.proofs.notes.Notes.take_all.Given as goal

abbrev pub invariant-loop-i : goal.invariant-loop-i
invariant-loop-i l =
    ((sets : Sets) → l.self.seen.items ≡ l.fn.self.seen.items ++ noted (watch_of l.names l.fn.self) (flat_map (takes l.role) (all_held l.names sets (take l.i l.tokens))))
    × (l.self.from ≡ l.fn.self.from) × (l.self.to ≡ l.fn.self.to)
