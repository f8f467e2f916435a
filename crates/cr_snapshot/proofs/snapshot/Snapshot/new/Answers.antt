use Rattle.std.proofs.Common.{sym, subst, refl}
use Rattle.cr_snapshot.specs.Files.{IsWithin}
use Rattle.cr_snapshot.specs.Totals.{AreOf}
use Rattle.cr_snapshot.proofs.Within.{built_ins-within, built_ins-totals}
use Rattle.cr_snapshot.proofs.snapshot.Snapshot.new.Goals as goal

pub invariant_of-result : goal.invariant_of-result
invariant_of-result c = (
  c.in_ok-files.ensures.keyed,
  subst IsWithin (sym c.in_ok-files.ensures.ok) built_ins-within,
  subst (AreOf (record { paths = 0; present = 0; bytes = 0 })) (sym c.in_ok-files.ensures.ok) built_ins-totals,
)
