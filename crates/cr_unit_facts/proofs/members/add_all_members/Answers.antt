use Rattle.std.proofs.Common.{arith}
use Rattle.std.proofs.lemmas.Option.{slice_get-get_or}
use Rattle.cr_unit_facts.specs.Telling.{MemberTells}
use Rattle.cr_groups.proofs.Counted.{one_more}
use Rattle.cr_unit_facts.proofs.members.add_all_members.Goals as goal

pub each-preserved : goal.each-preserved
each-preserved c = (
  omega (arith, c.each-test.true),
  one_more (MemberTells c.args.unit c.args.table.now c.args.tokens.now c.args.rows.now c.args.records.now c.args.names.old c.args.names.new) c.args.members.now _ _ _ c.each.i _ (slice_get-get_or c.args.members.now c.each.i _ c.each-test.true) c.each.invariant.1 c.in_ok-add_member.ensures,
)

pub add_member-requires-clause-member : goal.add_member-requires-clause-member
add_member-requires-clause-member c = c.requires.all c.each.i _ (slice_get-get_or c.args.members.now c.each.i _ c.each-test.true)
