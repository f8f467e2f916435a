use Rattle.std.proofs.Common.{arith}
use Rattle.std.proofs.lemmas.Option.{slice_get-get_or}
use Rattle.cr_unit_facts.specs.Telling.{UseTells}
use Rattle.cr_groups.proofs.Counted.{one_more}
use Rattle.cr_unit_facts.proofs.uses.add_all_uses.Goals as goal

pub each-preserved : goal.each-preserved
each-preserved c = (
  omega (arith, c.each-test.true),
  one_more (UseTells c.args.unit c.args.table.now c.args.tokens.now c.args.rows.now c.args.groups.now.entries c.args.records.now c.args.members.now c.args.old c.args.linked) c.args.uses.now _ _ _ c.each.i _ (slice_get-get_or c.args.uses.now c.each.i _ c.each-test.true) c.each.invariant.1 c.in_ok-add_use.ensures,
)
