use Rattle.std.proofs.Common.{◌≡◌, ◌++◌}
use Rattle.cr_goal.specs.Units.{units_in, skips_in}
use Rattle.cr_goal.proofs.units.Entries.of.Given as goal

abbrev pub invariant-loop-entry : goal.invariant-loop-entry
invariant-loop-entry l =
    (l.parted.units.items ++ units_in l.entry-iterator.rest.items ≡ units_in l.fn.entries.items)
    × (l.parted.skipped.items ++ skips_in l.entry-iterator.rest.items ≡ skips_in l.fn.entries.items)
