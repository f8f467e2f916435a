use Rattle.std.proofs.Common.{sym, ◌∙◌}
use Rattle.cr_records.proofs.Announcing.{announces, announces_none}
use Rattle.cr_records.proofs.records.Records.announce.Goals as goal

pub returns-in_ok-n-clause-ok : goal.returns-in_ok-n-clause-ok
returns-in_ok-n-clause-ok c = λ s e.
    c.in_ok-n.ensures.ok s
    ∙ sym (announces c.args.token c.args.keyword c.is_union.result _ e (sym c.is_record.ensures ∙ c.if-is_record.true) c.is_union.ensures)

pub returns-in_ok-n-2-clause-ok : goal.returns-in_ok-n-2-clause-ok
returns-in_ok-n-2-clause-ok c = λ s e.
    c.in_ok-n-2.ensures.same s
    ∙ sym (announces_none c.args.token c.args.keyword _ e (sym c.is_record.ensures ∙ c.if-is_record.false))
