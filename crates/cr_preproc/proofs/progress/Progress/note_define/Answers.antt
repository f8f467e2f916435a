use Rattle.std.proofs.Common.{◌≡◌, Some, [], refl, sym, ap, ◌∙◌, true≢false}
use Rattle.std.specs.Prelude.{is_some}
use Rattle.std.specs.Option.{option_map, option_copied}
use Rattle.cr_macros.specs.MacroTables.{macro_text}
use Rattle.cr_macros.specs.Tokens.{token_of}
use Rattle.cr_preproc.specs.Progressing.{definition_of}
use Rattle.cr_preproc.proofs.Definings.{macro_at, traced_as}
use Rattle.cr_preproc.proofs.progress.Progress.note_define.Goals as goal

pub unreachable-requires : goal.unreachable-requires
unreachable-requires c =
    let p = c.args.self.now in
    let at = macro_at p.names c.args.name.text p.macros c.lookup.result c.requires.good.distinct c.requires.name c.requires.good.macro_names c.lookup.ensures in
    true≢false (sym c.requires.defined ∙ ap is_some (sym at) ∙ ap (λ o. is_some (option_map (macro_text p.names) (option_copied o))) c.in_default.is)

pub returns-clause-traced : goal.returns-clause-traced
returns-clause-traced c m h =
    let p = c.args.self.now in
    let at = macro_at p.names c.args.name.text p.macros c.lookup.result c.requires.good.distinct c.requires.name c.requires.good.macro_names c.lookup.ensures in
    let found : Some (macro_text p.names c.in-Some.m.now) ≡ Some m = sym (ap (λ o. option_map (macro_text p.names) (option_copied o)) c.in-Some.is) ∙ at ∙ h in
    let same : macro_text p.names c.in-Some.m.now ≡ m = cc in
    traced_as p _ (definition_of p.names c.args.name c.args.behind.now (macro_text p.names c.in-Some.m.now)) (definition_of p.names c.args.name c.args.behind.now m)
    (ap (definition_of p.names c.args.name c.args.behind.now) same)
    c.in_ok-note_definition.ensures
    (c.in_ok-note_new_macro.ensures (macro_text p.names c.in-Some.m.now))
    (c.in_ok-note_captured.ensures (token_of p.names [] c.args.name))
    refl
