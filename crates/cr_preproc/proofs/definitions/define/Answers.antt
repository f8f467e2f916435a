use Rattle.std.proofs.lemmas.Result.{err_from_is_err_and}
use Rattle.cr_preproc.proofs.MacroNames.{defines_text, refused_text}
use Rattle.cr_preproc.proofs.definitions.define.Goals as goal

pub returns-in_err-define-clause-refused : goal.returns-in_err-define-clause-refused
returns-in_err-define-clause-refused c =
    let p = err_from_is_err_and c.from_residual.result c.from_residual.ensures.1 in
    rw (p.1, p.2) (refused_text c.args.names.now c.args.line.now _ c.text.ensures.distinct c.requires.line c.in_err-define.ensures.refused)

pub returns-clause-defines : goal.returns-clause-defines
returns-clause-defines c = (defines_text c.args.names.now c.args.line.now c.args.macros.now c.define.new.self c.text.ensures.distinct c.requires.line c.requires.macros c.in_ok-define.ensures.defines).0

pub returns-clause-named : goal.returns-clause-named
returns-clause-named c = (defines_text c.args.names.now c.args.line.now c.args.macros.now c.define.new.self c.text.ensures.distinct c.requires.line c.requires.macros c.in_ok-define.ensures.defines).1
