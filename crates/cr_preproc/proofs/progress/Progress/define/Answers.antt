use Rattle.std.proofs.Common.{drop}
use Rattle.cr_macros.specs.Tokens.{tokens_of}
use Rattle.cr_phase4.specs.Definition.{definition}
use Rattle.cr_preproc.proofs.NamesGrow.{all_named}
use Rattle.cr_preproc.proofs.Definings.{defined_now, defined_did}
use Rattle.cr_preproc.proofs.progress.Progress.define.Goals as goal

pub note_line-requires-clause-defined : goal.note_line-requires-clause-defined
note_line-requires-clause-defined c =
    let p = c.args.self.now in
    let d = c.in-Ok.ensures.defines in
    (d.0, d.1, defined_now p.names c.args.line.now p.macros c.define.new.macros d.0 d.2)

pub returns-in_ok-note_line-in-Ok-clause-carried : goal.returns-in_ok-note_line-in-Ok-clause-carried
returns-in_ok-note_line-in-Ok-clause-carried c h hash =
    let p = c.args.self.now in
    let d = c.in-Ok.ensures.defines in
    defined_did p c.define.new.macros c.requires.good
    (c.defined_macros_are_known.ensures.defined p.names c.args.line.now p.macros c.define.new.macros c.requires.good.macros (all_named p.names c.args.line.now c.requires.line) c.requires.long c.in-Ok.ensures.by_number)
    c.in-Ok.ensures.named
    c.note_line.new.self hash (definition (tokens_of p.names (drop 2 c.args.line.now))) d.0 d.1 d.2
    (c.in_ok-note_line-in-Ok.ensures.traced d.0 d.1 (defined_now p.names c.args.line.now p.macros c.define.new.macros d.0 d.2))
