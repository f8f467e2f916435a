use Rattle.std.proofs.Common.{refl, sym, ap, ◌∙◌}
use Rattle.cr_groups.specs.Rows.{place_in}
use Rattle.cr_conflicts.proofs.Meeting.{meeting}
use Rattle.cr_conflicts.proofs.members.add_meeting.Goals as goal

pub returns : goal.returns
returns c =
    meeting c.args.unit c.args.table.now c.args.tokens.now c.args.rows.now c.args.records.now c.args.members.now c.args.names.old c.args.names.new c.args.one c.args.holders.now.entries _ c.in-Some.n _ _ _ _ _
    c.requires.holders c.first_at.ensures c.in-Some.is (sym c.member_at.ensures ∙ c.in-Some-member_at.is) (sym c.name_in.ensures ∙ c.if-not-is_same.ensures.0 refl)
    c.in_ok-key.ensures (c.place_in-site.ensures ∙ ap (place_in c.args.tokens.now) c.later.ensures) c.in_ok-add_fact.ensures
