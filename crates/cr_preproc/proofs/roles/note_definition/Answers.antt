use Rattle.std.proofs.Common.{[], ap, ◌∙◌, ◌++◌}
use Rattle.cr_base.specs.declared.cause.Role.TheVariants as role
use Rattle.cr_macros.specs.Definition.{text_of}
use Rattle.cr_macros.specs.MacroTables.{macro_text}
use Rattle.cr_macros.specs.Tokens.{token_of, tokens_of}
use Rattle.cr_phase4.specs.Definition.{parameters_of}
use Rattle.cr_phase4.specs.Traces.{all_seen_as, params_seen}
use Rattle.cr_preproc.proofs.Marked.{parts_noted}
use Rattle.cr_preproc.proofs.roles.note_definition.Goals as goal

pub returns : goal.returns
returns c =
    let names = c.args.names.now in
    let old = text_of names c.args.renaming.old in
    let new = text_of names c.args.renaming.new in
    let macro = macro_text names c.args.m.now in
    parts_noted old new (record { name = token_of names [] c.args.name; parameters = parameters_of (tokens_of names c.args.behind.now); macro = macro })
    c.args.seen.now.items c.note.new.seen.items c.note_all.new.seen.items c.note_params.new.seen.items
    (c.in_ok-note.ensures)
    (c.in_ok-note_all.ensures ∙ ap (λ ts. c.note.new.seen.items ++ all_seen_as old new role.Param ts) c.parameters.ensures)
    (c.in_ok-note_params.ensures ∙ ap (λ ts. c.note_all.new.seen.items ++ params_seen old new macro (tokens_of names ts)) c.items.ensures)
