use Rattle.std.proofs.Common.{◌-◌, [], refl, subst}
use Rattle.std.proofs.lemmas.Result.{err_from_is_err_and}
use Rattle.cr_expand.specs.declared.machine.TheConstants.{LIMIT}
use Rattle.cr_macros.specs.MacroTables.{macro_text}
use Rattle.cr_macros.specs.Tokens.{with_name}
use Rattle.cr_macros.specs.Definition.{text_of}
use Rattle.cr_expand.specs.Held.{held, hidden, Faults}
use Rattle.cr_expand.specs.Running.{put_for}
use Rattle.cr_expand.proofs.Puttings.{put_again, object_work}
use Rattle.cr_expand.proofs.machine.Machine.object.Goals as goal

pub put-requires-clause-tables : goal.put-requires-clause-tables
put-requires-clause-tables c = c.in_ok-hide.ensures.tables

pub returns-in_err-put-clause-faults : goal.returns-in_err-put-clause-faults
returns-in_err-put-clause-faults c =
    let p = err_from_is_err_and c.from_residual-in_err-put.result c.from_residual-in_err-put.ensures.1 in
    rw (p.1, p.2)
    (subst (λ w. Faults (w (LIMIT - c.args.self.now.used)) c.in_err-put.field-0.0)
    (object_work c.args.names.now c.args.self.now.sets c.with_one.new.sets c.args.h (macro_text c.args.names.now c.args.m.now) c.in_ok-hide.hide.0
    (with_name (text_of c.args.names.now c.args.h.token.text) (hidden c.args.names.now c.args.self.now.sets c.args.h.hide.0)) c.requires.tables c.requires.name c.in_ok-hide.ensures)
    c.in_err-put.ensures.faults)

pub returns-clause-put : goal.returns-clause-put
returns-clause-put c =
    put_again c.args.names.now c.put.new.names c.args.self.now _ c.put.new.self
    (put_for (held c.args.names.now c.with_one.new.sets c.args.h) (macro_text c.args.names.now c.args.m.now) [] [] (hidden c.args.names.now c.with_one.new.sets c.in_ok-hide.hide.0)) _ c.pop_front.new.self.items _ refl refl
    c.in_ok-hide.ensures.grows
    (object_work c.args.names.now c.args.self.now.sets c.with_one.new.sets c.args.h (macro_text c.args.names.now c.args.m.now) c.in_ok-hide.hide.0
    (with_name (text_of c.args.names.now c.args.h.token.text) (hidden c.args.names.now c.args.self.now.sets c.args.h.hide.0)) c.requires.tables c.requires.name c.in_ok-hide.ensures)
    c.pop_front.ensures.rest
    c.in_ok-put.ensures.put
