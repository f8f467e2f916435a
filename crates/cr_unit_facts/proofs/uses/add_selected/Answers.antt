use Rattle.std.proofs.Common.{sym, ◌∙◌}
use Rattle.cr_unit_facts.proofs.Selected.{selected}
use Rattle.cr_unit_facts.proofs.uses.add_selected.Goals as goal

pub member_key-requires-clause-member : goal.member_key-requires-clause-member
member_key-requires-clause-member c = c.requires.all c.in-Some.n _ (sym c.member_at.ensures ∙ c.in-Some-member_at.is)

pub returns : goal.returns
returns c =
    selected c.args.unit c.args.table.now c.args.tokens.now c.args.rows.now c.args.records.now c.args.members.now c.args.token c.args.member c.args.owns.now.entries _ c.in-Some.n _ _ _ _ _
    c.requires.owns c.first_at.ensures c.in-Some.is (sym c.member_at.ensures ∙ c.in-Some-member_at.is) c.in_ok-key.ensures c.member_nature.ensures c.in_ok-add_occurrence.ensures
