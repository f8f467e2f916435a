use Rattle.std.proofs.Common.{◌∙◌, ap, sym}
use Rattle.std.specs.List.{list_any}
use Rattle.cr_decl.specs.Specifiers.{is_part}
use Rattle.cr_decl.proofs.Lists.{list_any-map}
use Rattle.cr_decl.proofs.continues.Goals as goal

pub returns : goal.returns
returns c =
    c.begins_one.ensures
    ∙ sym (list_any-map (λ list. list.now) (is_part c.args.words.now) c.permitted.result.now)
    ∙ ap (list_any (is_part c.args.words.now)) c.permitted.ensures
