use Rattle.std.proofs.Common.{arith}
use Rattle.std.proofs.lemmas.Option.{slice_get-get_or}
use Rattle.cr_groups.proofs.Building.{one_more}
use Rattle.cr_groups.proofs.build.groups_of.Goals as goal

pub each-preserved : goal.each-preserved
each-preserved c =
    (omega (arith, c.each-test.true), one_more c.args.unit c.args.table.now c.args.tokens.now c.args.rows.now c.args.names.old c.args.names.new c.each.groups.entries c.add_row.new.groups.entries c.each.i _ (slice_get-get_or c.args.rows.now c.each.i _ c.each-test.true) c.each.invariant.1 c.in_ok-add_row.ensures)
