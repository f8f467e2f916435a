use Rattle.std.proofs.Common.{arith}
use Rattle.std.proofs.lemmas.Option.{slice_get-get_or}
use Rattle.cr_conflicts.proofs.Lowest.{one_lower}
use Rattle.cr_conflicts.proofs.leasts.leasts_of.Goals as goal

pub each-preserved : goal.each-preserved
each-preserved c = (
  omega (arith, c.each-test.true),
  one_lower c.args.names.old c.args.names.new c.args.rows.now c.each.leasts.entries c.add_least.new.leasts.entries c.each.i _ (slice_get-get_or c.args.rows.now c.each.i _ c.each-test.true) c.each.invariant.1 c.in_ok-add_least.ensures,
)
