use Rattle.std.proofs.Common.{◌∙◌, ap, sym}
use Rattle.std.specs.List.{list_any}
use Rattle.cr_decl.specs.Specifiers.{is_rearranged}
use Rattle.cr_decl.proofs.Lists.{list_any-map}
use Rattle.cr_decl.proofs.is_permitted.Goals as goal

pub returns : goal.returns
returns c =
    c.rearranges_one.ensures
    ∙ sym (list_any-map (λ list. list.now) (is_rearranged c.args.words.now) c.permitted.result.now)
    ∙ ap (list_any (is_rearranged c.args.words.now)) c.permitted.ensures
