use Rattle.std.proofs.Common.{◌∙◌, sym}
use Rattle.cr_macros.specs.Tokens.{is_ident, has}
use Rattle.cr_macros.specs.Definition.{text_of}
use Rattle.cr_expand.specs.Held.{hidden}
use Rattle.cr_expand.proofs.Headings.{hidden_has, not_kept}
use Rattle.cr_expand.proofs.head.is_kept.Goals as goal

pub returns-else-not-is_ident : goal.returns-else-not-is_ident
returns-else-not-is_ident c =
    not_kept (is_ident c.args.h.token.kind) c.has.result (has (hidden c.args.names.now c.args.sets.now c.args.h.hide.0) (text_of c.args.names.now c.args.h.token.text))
    (sym c.is_ident.ensures ∙ c.if-not-is_ident.false)
    (c.has.ensures ∙ sym (hidden_has c.args.names.now c.args.sets.now c.args.h.hide.0 c.args.h.token.text c.requires.tables c.requires.token.1 c.requires.token.0))
