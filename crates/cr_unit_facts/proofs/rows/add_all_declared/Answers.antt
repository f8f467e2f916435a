use Rattle.std.proofs.Common.{arith}
use Rattle.std.proofs.lemmas.Option.{slice_get-get_or}
use Rattle.cr_unit_facts.specs.Telling.{DeclaredTells}
use Rattle.cr_groups.proofs.Counted.{one_more}
use Rattle.cr_unit_facts.proofs.rows.add_all_declared.Goals as goal

pub each-preserved : goal.each-preserved
each-preserved c = (
  omega (arith, c.each-test.true),
  one_more (DeclaredTells c.args.tokens.now c.args.groups.now.entries c.args.names.old c.args.names.new c.args.linked) c.args.rows.now _ _ _ c.each.i _ (slice_get-get_or c.args.rows.now c.each.i _ c.each-test.true) c.each.invariant.1 c.in_ok-add_declared.ensures,
)
