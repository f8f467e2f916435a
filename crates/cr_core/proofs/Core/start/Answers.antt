use Rattle.std.proofs.Common.{arith, List, sym, subst}
use Rattle.cr_core.specs.declared.progress.Progress.{Progress}
use Rattle.cr_core.specs.Assignment.{untouched}
use Rattle.cr_core.proofs.Soundness.{sound_untouched}
use Rattle.cr_core.proofs.Units.{length_replicate, IsKept}
use Rattle.cr_core.proofs.Core.start.Goals as goal

pub invariant_of-result : goal.invariant_of-result
invariant_of-result c =
    let P : List Progress → Type 0 = IsKept c.args.retries in
    subst P (sym c.in_ok-units.ensures) (omega (arith, c.requires.0, length_replicate c.args.units untouched), c.requires.1, sound_untouched c.args.retries c.args.units)
