use Rattle.std.proofs.Common.{◌≡◌, ◌++◌, map}
use Rattle.cr_run.specs.Units.{units_in, skips_in}
use Rattle.cr_run.specs.Seen.{skip_of_code}
use Rattle.cr_run.proofs.units.Entries.of.Given as goal

abbrev pub invariant-loop-entry : goal.invariant-loop-entry
invariant-loop-entry l =
    (l.parted.units.items ++ units_in l.entry-iterator.rest.items ≡ units_in l.fn.entries.items)
    × (map skip_of_code l.parted.skipped.items ++ skips_in l.entry-iterator.rest.items ≡ skips_in l.fn.entries.items)
