use Rattle.std.proofs.Common.{ap, sym, ◌∙◌, []}
use Rattle.std.proofs.lemmas.Option.{get_or_from_slice_get}
use Rattle.std.specs.Prelude.{slice_index_or}
use Rattle.cr_base.specs.declared.key.Key.TheVariants as key
use Rattle.cr_groups.specs.Built.{text_in}
use Rattle.cr_conflicts.specs.Members.{record_key_of, record_key_in}
use Rattle.cr_conflicts.proofs.Keyed.{tag_spelled}
use Rattle.cr_conflicts.proofs.members.member_key.Goals as goal

pub key_by_tag-requires-clause-spelled : goal.key_by_tag-requires-clause-spelled
key_by_tag-requires-clause-spelled c = tag_spelled c.args.table.now c.args.tokens.now c.args.rows.now _ _ c.tag_at-tag.ensures c.requires.rows

pub returns : goal.returns
returns c =
    ap (λ r. key.Member r c.in_ok-text.text) (c.in_ok-record.ensures ∙ ap (record_key_of c.args.unit c.args.table.now c.args.tokens.now _) c.tag_at-tag.ensures)
    ∙ ap (λ z. key.Member (record_key_in c.args.unit c.args.table.now c.args.tokens.now c.args.rows.now (slice_index_or c.args.records.now c.args.one.own 0)) z) (c.in_ok-text.ensures ∙ sym (get_or_from_slice_get c.args.table.now c.name_in.result.0 c.text.result.now [] c.text.ensures.text) ∙ ap (text_in c.args.table.now) c.name_in.ensures)
