use Rattle.std.proofs.Common.{◌≤◌, drop}
use Rattle.indexmap.specs.IndexSet.{spare}
use Rattle.cr_types.specs.Kept.{DerivesIn}
use Rattle.cr_types.proofs.derive_in.Given as goal

abbrev pub invariant-loop-i : goal.invariant-loop-i
invariant-loop-i l = (l.i ≤ spare l.types) × DerivesIn l.fn.types.keys l.fn.base (drop l.i l.parts) l.types.keys l.n
