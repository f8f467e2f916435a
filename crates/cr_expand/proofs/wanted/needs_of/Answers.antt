use Rattle.std.proofs.Common.{◌∙◌, ap}
use Rattle.std.specs.List.{list_any}
use Rattle.cr_macros.specs.Substitution as spec
use Rattle.cr_expand.specs.Items.{item_texts}
use Rattle.cr_expand.specs.Wanted.{is_as_is}
use Rattle.cr_expand.proofs.FullMarks.{both_marks}
use Rattle.cr_expand.proofs.wanted.needs_of.Goals as goal

pub returns-clause-expanded : goal.returns-clause-expanded
returns-clause-expanded c = λ n h.
    (c.in_ok-expanded.ensures c.args.names.now).1 n h
    ∙ ap (λ l. list_any (spec.is_full n) (item_texts c.args.names.now l)) c.deref.ensures.value
    ∙ ap (list_any (spec.is_full n)) c.in_ok-items.ensures.items

pub returns-clause-whole : goal.returns-clause-whole
returns-clause-whole c = λ n h.
    both_marks
    ((c.in_ok-as_is.ensures c.args.names.now).1 n h
    ∙ ap (λ l. list_any (is_as_is n) (item_texts c.args.names.now l)) c.deref-2.ensures.value
    ∙ ap (list_any (is_as_is n)) c.in_ok-items.ensures.items)
    ((c.in_ok-used.ensures c.args.names.now).1 n h
    ∙ ap (λ l. list_any (spec.is_use n) (item_texts c.args.names.now l)) c.deref-3.ensures.value
    ∙ ap (list_any (spec.is_use n)) c.in_ok-items.ensures.items)
