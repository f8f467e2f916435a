use Rattle.std.proofs.Common.{◌-◌, ◌++◌, ap, ◌∙◌, arith, map}
use Rattle.std.proofs.lemmas.Result.{err_from_is_err_and}
use Rattle.cr_expand.specs.declared.machine.TheConstants.{LIMIT}
use Rattle.cr_macros.specs.Substitution as spec
use Rattle.cr_macros.specs.MacroTables.{macro_text}
use Rattle.cr_macros.specs.Expansion.{put_in}
use Rattle.cr_expand.specs.Held.{watch_of, hidden, held, all_held, all_args}
use Rattle.cr_expand.specs.Slots.{tokens}
use Rattle.cr_expand.proofs.Telling.{faults_first}
use Rattle.cr_expand.proofs.Quiet.{quiet_subst}
use Rattle.cr_expand.proofs.Puttings.{is_put, faults_over, length_held}
use Rattle.cr_expand.proofs.machine.Machine.put.Goals as goal

pub returns-in_err-list-clause-faults : goal.returns-in_err-list-clause-faults
returns-in_err-list-clause-faults c =
    let p = err_from_is_err_and c.from_residual.result c.from_residual.ensures.1 in
    rw (p.1, p.2) (faults_first _ (λ ts. put_in ts) c.in_err-list.field-0.0 ((c.in_err-list.ensures.stops (hidden c.args.names.now c.args.self.now.sets c.args.name.hide.0)).at (LIMIT - c.args.self.now.used)))

pub returns-in_err-self-clause-faults : goal.returns-in_err-self-clause-faults
returns-in_err-self-clause-faults c =
    let p = err_from_is_err_and c.from_residual-in_err-self.result c.from_residual-in_err-self.ensures.1 in
    let n = length_held c.subst.new.names c.subst.new.sets c.in_ok-list.list.items in
    rw (p.1, p.2, c.in_err-self.ensures.0)
    (faults_over (watch_of c.args.names.now c.args.self.now.notes) c.args.self.now.notes.seen.items c.subst.new.notes.seen.items (all_held c.subst.new.names c.subst.new.sets c.in_ok-list.list.items) (LIMIT - c.args.self.now.used) _
    ((c.in_ok-list.ensures.does (hidden c.args.names.now c.args.self.now.sets c.args.name.hide.0)).at (LIMIT - c.args.self.now.used))
    (omega (arith, n, c.in_err-self.ensures.1, c.len.ensures, c.in_ok-list.list.ok)))

pub returns-clause-put : goal.returns-clause-put
returns-clause-put c =
    is_put c.args.names.now c.subst.new.names c.args.self.now _
    (spec.subst (held c.args.names.now c.args.self.now.sets c.args.name) (macro_text c.args.names.now c.args.m.now) (all_args c.args.names.now c.args.self.now.sets (map (λ v. v.items) c.args.raw.now))
    (all_args c.args.names.now c.args.self.now.sets (map (λ v. v.items) c.args.full.now)) (hidden c.args.names.now c.args.self.now.sets c.args.hide.0))
    c.args.self.now.slots.items c.in_ok-list.list.items
    ((c.in_ok-list.ensures.does (hidden c.args.names.now c.args.self.now.sets c.args.name.hide.0)).at (LIMIT - c.args.self.now.used))
    ((quiet_subst (held c.args.names.now c.args.self.now.sets c.args.name) (macro_text c.args.names.now c.args.m.now) (all_args c.args.names.now c.args.self.now.sets (map (λ v. v.items) c.args.raw.now))
    (all_args c.args.names.now c.args.self.now.sets (map (λ v. v.items) c.args.full.now)) (hidden c.args.names.now c.args.self.now.sets c.args.hide.0)).at (LIMIT - c.args.self.now.used))
    (omega (arith, c.in_ok-self.ensures, c.len.ensures, c.in_ok-list.list.ok))
    c.in_ok-self.ensures.1
    (c.in_ok-put_front.ensures ∙ ap (λ l. tokens l ++ c.args.self.now.slots.items) c.deref.ensures.value)
    c.in_ok-list.ensures.known
    c.in_ok-list.ensures.tables
    c.in_ok-list.ensures.grows
    c.in_ok-list.ensures.sets_grow
