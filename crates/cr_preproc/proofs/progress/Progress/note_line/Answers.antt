use Rattle.std.proofs.Common.{drop, sym, ap, ◌∙◌, subst}
use Rattle.std.specs.Prelude.{is_some}
use Rattle.cr_preproc.specs.Seen.{macros_of}
use Rattle.cr_preproc.specs.Progressing.{IsTraced, definition_of, definition_events}
use Rattle.cr_preproc.proofs.ByTexts.{drop_named}
use Rattle.cr_preproc.proofs.Definings.{defined_long, defined_by, first_named}
use Rattle.cr_preproc.proofs.progress.Progress.note_line.Goals as goal

pub name_of-requires : goal.name_of-requires
name_of-requires c = let d = c.requires.defined in defined_long c.args.self.now.names c.args.line.now d.0 d.1

pub note_define-requires-clause-name : goal.note_define-requires-clause-name
note_define-requires-clause-name c = first_named c.args.self.now.names (drop 2 c.args.line.now) c.name_of.result (drop 3 c.args.line.now) c.name_of.ensures (drop_named c.args.self.now.names 2 c.args.line.now c.requires.line)

pub note_define-requires-clause-defined : goal.note_define-requires-clause-defined
note_define-requires-clause-defined c =
    let p = c.args.self.now in
    let d = c.requires.defined in
    let named = defined_by p.names (drop 2 c.args.line.now) c.name_of.result (drop 3 c.args.line.now) d.0 c.name_of.ensures d.1 in
    ap is_some (ap (λ x. macros_of p.names p.macros x.name.text) (sym named) ∙ d.2)

pub returns-clause-traced : goal.returns-clause-traced
returns-clause-traced c d e f =
    let p = c.args.self.now in
    let named = defined_by p.names (drop 2 c.args.line.now) c.name_of.result (drop 3 c.args.line.now) d c.name_of.ensures e in
    let traced = c.in_ok-note_define.ensures.traced d.macro (ap (λ x. macros_of p.names p.macros x.name.text) (sym named) ∙ f) in
    subst (λ x. IsTraced p c.note_define.new.self (definition_events x)) (ap (λ behind. definition_of p.names c.name_of.result behind d.macro) c.behind_name.ensures ∙ sym named) traced
