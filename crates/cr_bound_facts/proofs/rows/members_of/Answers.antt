use Rattle.std.proofs.Common.{Some, sym, ap, ◌∙◌, arith}
use Rattle.cr_records.specs.Records.{members_by}
use Rattle.cr_conflicts.specs.Members.{row_of}
use Rattle.cr_bound_facts.specs.Bound.{member_rows}
use Rattle.cr_bound_facts.proofs.Bridging.{image_of}
use Rattle.cr_bound_facts.proofs.Collecting.{one_more}
use Rattle.cr_bound_facts.proofs.rows.members_of.Goals as goal

pub each-preserved : goal.each-preserved
each-preserved c = (
  omega (arith, c.each-test.true, c.len.ensures),
  λ t.
      c.in_ok-push.ensures.items
      ∙ one_more (member_rows t c.args.records.now) c.each.rows.items c.each.n c.row_of.result (c.each.invariant.1 t)
      (image_of row_of (members_by t c.args.records.now) c.each.n _ (c.member.ensures.member t) ∙ ap Some (sym (c.row_of.ensures t))),
)
