use Rattle.std.proofs.Common.{◌-◌, ◌≤◌, [], drop, refl, sym, ap, subst, ◌∙◌, arith}
use Rattle.std.proofs.lemmas.Result.{err_from_is_err_and}
use Rattle.cr_expand.specs.declared.machine.TheConstants.{LIMIT}
use Rattle.cr_expand.specs.declared.slot.Slot.TheVariants as slot
use Rattle.cr_expand.specs.declared.turn.Turn.TheVariants as turn
use Rattle.cr_macros.specs.Definition.{text_of}
use Rattle.cr_macros.specs.Expansion.{predefined_token, use_of}
use Rattle.cr_expand.specs.Held.{held, AreTables, IsKnown}
use Rattle.cr_expand.proofs.Kept.{tables_later, sets_named_later}
use Rattle.cr_expand.proofs.Sets.{grows_same}
use Rattle.cr_expand.proofs.Looked.{found_known, found_short, keys_known}
use Rattle.cr_expand.proofs.Nexts.{next_stays, next_predefined, next_object, next_call, next_end, next_unclosed}
use Rattle.cr_expand.proofs.Steps.{same_sets, keeps, predefines}
use Rattle.cr_expand.proofs.Calling.{objects, object_faults}
use Rattle.cr_expand.proofs.Arguments.{unclosed, predefined_fault, miscounts}
use Rattle.cr_expand.proofs.TurnSteps.{head_known, closed_at, is_more, put_from, ended_step, ended_fault, ended_machine, ended_smaller, entered_step, entered_machine, entered_smaller}
use Rattle.cr_expand.proofs.Wants.{next_finish, no_calls, end_gives, end_ahead, wanting_end, wanting_hungry, ended_wanted, entered_wanted}
use Rattle.cr_macros.specs.MacroTables.{table_of}
use Rattle.cr_expand.specs.Slots.{ends, tokens}
use Rattle.cr_expand.proofs.Lefts.{leaves_front, leaves_same, leaves_ended, leaves_entered}
use Rattle.cr_expand.proofs.Hungry.{only_hungry}
use Rattle.cr_expand.proofs.Keeping.{gives_machine, object_machine}
use Rattle.cr_expand.proofs.machine.Machine.turn.Goals as goal

pub turn_of-turn-requires-clause-macros : goal.turn_of-turn-requires-clause-macros
turn_of-turn-requires-clause-macros c = keys_known c.args.names.now c.args.macros.now c.requires.macros

pub end_argument-requires-clause-starts : goal.end_argument-requires-clause-starts
end_argument-requires-clause-starts c =
    next_end c.args.names.now c.args.self.now.sets c.args.macros.now (text_of c.args.names.now c.args.self.now.file) [] c.args.self.now.slots.items (c.in-ArgumentEnd.ensures.means (text_of c.args.names.now c.args.self.now.file) [] (λ _. refl))

pub object-requires-clause-room : goal.object-requires-clause-room
object-requires-clause-room c =
    let u = next_object c.args.names.now c.args.self.now.sets c.args.macros.now (text_of c.args.names.now c.args.self.now.file) [] c.args.self.now.slots.items c.in-Object.h c.in-Object.m (c.in-Object.ensures.means (text_of c.args.names.now c.args.self.now.file) [] (λ _. refl)) in
    omega (arith, c.requires.room, found_short c.args.names.now c.args.macros.now c.in-Object.h.token.text c.in-Object.m.now c.requires.macros u.1)

pub object-requires-clause-name : goal.object-requires-clause-name
object-requires-clause-name c =
    let u = next_object c.args.names.now c.args.self.now.sets c.args.macros.now (text_of c.args.names.now c.args.self.now.file) [] c.args.self.now.slots.items c.in-Object.h c.in-Object.m (c.in-Object.ensures.means (text_of c.args.names.now c.args.self.now.file) [] (λ _. refl)) in
    head_known c.args.names.now c.args.self.now.sets c.args.self.now.slots.items c.in-Object.h u.0.0 u.0.1 c.requires.machine.slots

pub object-requires-clause-known : goal.object-requires-clause-known
object-requires-clause-known c =
    let u = next_object c.args.names.now c.args.self.now.sets c.args.macros.now (text_of c.args.names.now c.args.self.now.file) [] c.args.self.now.slots.items c.in-Object.h c.in-Object.m (c.in-Object.ensures.means (text_of c.args.names.now c.args.self.now.file) [] (λ _. refl)) in
    found_known c.args.names.now c.args.macros.now c.in-Object.h.token.text c.in-Object.m.now c.requires.macros u.1

pub enter-requires-clause-call : goal.enter-requires-clause-call
enter-requires-clause-call c =
    let u = next_call c.args.names.now c.args.self.now.sets c.args.macros.now (text_of c.args.names.now c.args.self.now.file) [] c.args.self.now.slots.items c.in-Call.h c.in-Call.m c.in-Call.count c.in-Call.close (c.in-Call.ensures.means (text_of c.args.names.now c.args.self.now.file) [] (λ _. refl)) in
    closed_at c.args.names.now c.args.self.now.sets c.args.self.now.slots.items [] _ c.in-Call.h c.in-Call.m.now c.in-Call.count c.in-Call.close u.0

pub enter-requires-clause-name : goal.enter-requires-clause-name
enter-requires-clause-name c =
    let u = next_call c.args.names.now c.args.self.now.sets c.args.macros.now (text_of c.args.names.now c.args.self.now.file) [] c.args.self.now.slots.items c.in-Call.h c.in-Call.m c.in-Call.count c.in-Call.close (c.in-Call.ensures.means (text_of c.args.names.now c.args.self.now.file) [] (λ _. refl)) in
    head_known c.args.names.now c.args.self.now.sets c.args.self.now.slots.items c.in-Call.h _ u.0.slots_are c.requires.machine.slots

pub enter-requires-clause-known : goal.enter-requires-clause-known
enter-requires-clause-known c =
    let u = next_call c.args.names.now c.args.self.now.sets c.args.macros.now (text_of c.args.names.now c.args.self.now.file) [] c.args.self.now.slots.items c.in-Call.h c.in-Call.m c.in-Call.count c.in-Call.close (c.in-Call.ensures.means (text_of c.args.names.now c.args.self.now.file) [] (λ _. refl)) in
    found_known c.args.names.now c.args.macros.now c.in-Call.h.token.text c.in-Call.m.now c.requires.macros u.1

pub returns-in-Unclosed-clause-faults : goal.returns-in-Unclosed-clause-faults
returns-in-Unclosed-clause-faults c = λ more q.
    let u = next_unclosed c.args.names.now c.args.self.now.sets c.args.macros.now (text_of c.args.names.now c.args.self.now.file) more c.args.self.now.slots.items c.in-Unclosed.site (c.in-Unclosed.ensures.means (text_of c.args.names.now c.args.self.now.file) more q) in
    unclosed c.args.names.now c.args.names.now c.args.macros.now c.args.self.now c.args.self.now more c.requires.machine c.requires.macros (grows_same c.args.names.now) (grows_same c.args.self.now.sets) refl
    c.expansion_follows_the_rules.ensures u.0 u.1.0 c.in-Unclosed.site u.1.1 u.1.2

pub returns-in_ok-step-in-Stays-clause-step : goal.returns-in_ok-step-in-Stays-clause-step
returns-in_ok-step-in-Stays-clause-step c = λ more q.
    let u = next_stays c.args.names.now c.args.self.now.sets c.args.macros.now (text_of c.args.names.now c.args.self.now.file) more c.args.self.now.slots.items c.in-Stays.h (c.in-Stays.ensures.means (text_of c.args.names.now c.args.self.now.file) more q) in
    let e = c.in_ok-step-in-Stays.ensures.same in
    keeps c.args.names.now c.args.names.now c.args.macros.now c.args.self.now c.keep.new.self more c.requires.machine c.requires.macros (grows_same c.args.names.now) (same_sets c.args.self.now.sets c.keep.new.self.sets e.1) e.0.2
    c.expansion_follows_the_rules.ensures c.in-Stays.h u.0 c.in_ok-step-in-Stays.step (held c.args.names.now c.args.self.now.sets c.in-Stays.h) u.1 u.2
    c.in_ok-step-in-Stays.ensures.slots (ap (λ x. LIMIT - x) e.3) e.2 (ap (λ z. held c.args.names.now z c.in-Stays.h) e.1) c.in_ok-step-in-Stays.ensures.given

pub returns-in_ok-step-in-Stays-clause-named : goal.returns-in_ok-step-in-Stays-clause-named
returns-in_ok-step-in-Stays-clause-named c =
    let u = next_stays c.args.names.now c.args.self.now.sets c.args.macros.now (text_of c.args.names.now c.args.self.now.file) [] c.args.self.now.slots.items c.in-Stays.h (c.in-Stays.ensures.means (text_of c.args.names.now c.args.self.now.file) [] (λ _. refl)) in
    c.in_ok-step-in-Stays.ensures.named c.args.names.now (head_known c.args.names.now c.args.self.now.sets c.args.self.now.slots.items c.in-Stays.h u.0 u.1 c.requires.machine.slots).0

pub returns-in_ok-step-in-Stays-clause-machine : goal.returns-in_ok-step-in-Stays-clause-machine
returns-in_ok-step-in-Stays-clause-machine c =
    let u = next_stays c.args.names.now c.args.self.now.sets c.args.macros.now (text_of c.args.names.now c.args.self.now.file) [] c.args.self.now.slots.items c.in-Stays.h (c.in-Stays.ensures.means (text_of c.args.names.now c.args.self.now.file) [] (λ _. refl)) in
    let e = c.in_ok-step-in-Stays.ensures.same in
    gives_machine c.args.names.now c.args.names.now c.args.macros.now c.args.self.now c.keep.new.self c.requires.machine c.requires.macros (grows_same c.args.names.now) (same_sets c.args.self.now.sets c.keep.new.self.sets e.1) e.0 (subst (AreTables c.args.names.now) (sym e.1) c.requires.machine.tables)
    c.in-Stays.h c.in-Stays.h u.0 c.in_ok-step-in-Stays.step u.1 c.in_ok-step-in-Stays.ensures.slots c.in_ok-step-in-Stays.ensures.given
    (subst (λ z. IsKnown c.args.names.now z c.in-Stays.h) (sym e.1) (head_known c.args.names.now c.args.self.now.sets c.args.self.now.slots.items c.in-Stays.h u.0 u.1 c.requires.machine.slots)) (subst (λ x. x ≤ LIMIT) (sym e.3) c.requires.machine.limit)

pub returns-in_err-step-in-Predefined-clause-faults : goal.returns-in_err-step-in-Predefined-clause-faults
returns-in_err-step-in-Predefined-clause-faults c = λ more q.
    let p = err_from_is_err_and c.from_residual-in_err-step-in-Predefined.result c.from_residual-in_err-step-in-Predefined.ensures.1 in
    let u = next_predefined c.args.names.now c.args.self.now.sets c.args.macros.now (text_of c.args.names.now c.args.self.now.file) more c.args.self.now.slots.items c.in-Predefined.h c.in-Predefined.p (c.in-Predefined.ensures.means (text_of c.args.names.now c.args.self.now.file) more q) in
    rw (p.1, p.2) (predefined_fault c.args.names.now c.args.names.now c.args.macros.now c.args.self.now c.args.self.now more c.requires.machine c.requires.macros (grows_same c.args.names.now) (grows_same c.args.self.now.sets) refl c.expansion_follows_the_rules.ensures c.in-Predefined.h
    (predefined_token (text_of c.args.names.now c.args.self.now.file) c.in-Predefined.h.token.line c.in-Predefined.p).0 (predefined_token (text_of c.args.names.now c.args.self.now.file) c.in-Predefined.h.token.line c.in-Predefined.p).1 u.0 c.in_err-step-in-Predefined.field-0.0 u.1 u.2 c.in_err-step-in-Predefined.ensures.faults)

pub returns-in_ok-step-in-Predefined-clause-step : goal.returns-in_ok-step-in-Predefined-clause-step
returns-in_ok-step-in-Predefined-clause-step c = λ more q.
    let u = next_predefined c.args.names.now c.args.self.now.sets c.args.macros.now (text_of c.args.names.now c.args.self.now.file) more c.args.self.now.slots.items c.in-Predefined.h c.in-Predefined.p (c.in-Predefined.ensures.means (text_of c.args.names.now c.args.self.now.file) more q) in
    let e = c.in_ok-step-in-Predefined.ensures.same in
    let g = c.in_ok-step-in-Predefined.ensures.given in
    predefines c.args.names.now c.predefined.new.names c.args.macros.now c.args.self.now c.predefined.new.self more c.requires.machine c.requires.macros g.grows (same_sets c.args.self.now.sets c.predefined.new.self.sets e.1) e.0.2
    c.expansion_follows_the_rules.ensures c.in-Predefined.h (predefined_token (text_of c.args.names.now c.args.self.now.file) c.in-Predefined.h.token.line c.in-Predefined.p).0 (predefined_token (text_of c.args.names.now c.args.self.now.file) c.in-Predefined.h.token.line c.in-Predefined.p).1 u.0
    c.in_ok-step-in-Predefined.step u.1 u.2 c.in_ok-step-in-Predefined.ensures.slots e.1 g

pub returns-in_ok-step-in-Predefined-clause-machine : goal.returns-in_ok-step-in-Predefined-clause-machine
returns-in_ok-step-in-Predefined-clause-machine c =
    let u = next_predefined c.args.names.now c.args.self.now.sets c.args.macros.now (text_of c.args.names.now c.args.self.now.file) [] c.args.self.now.slots.items c.in-Predefined.h c.in-Predefined.p (c.in-Predefined.ensures.means (text_of c.args.names.now c.args.self.now.file) [] (λ _. refl)) in
    let e = c.in_ok-step-in-Predefined.ensures.same in
    let g = c.in_ok-step-in-Predefined.ensures.given in
    gives_machine c.args.names.now c.predefined.new.names c.args.macros.now c.args.self.now c.predefined.new.self c.requires.machine c.requires.macros g.grows (same_sets c.args.self.now.sets c.predefined.new.self.sets e.1) e.0
    (subst (AreTables c.predefined.new.names) (sym e.1) (tables_later c.args.names.now c.predefined.new.names c.args.self.now.sets c.args.self.now.sets c.requires.machine.tables g.grows (grows_same c.args.self.now.sets) g.distinct
    (sets_named_later c.args.names.now c.predefined.new.names c.args.self.now.sets g.grows c.requires.machine.tables.named)))
    c.in-Predefined.h g.one u.0 c.in_ok-step-in-Predefined.step u.1 c.in_ok-step-in-Predefined.ensures.slots g.gives (subst (λ z. IsKnown c.predefined.new.names z g.one) (sym e.1) g.known) g.limit

pub returns-in_err-step-in-Object-clause-faults : goal.returns-in_err-step-in-Object-clause-faults
returns-in_err-step-in-Object-clause-faults c = λ more q.
    let p = err_from_is_err_and c.from_residual-in_err-step-in-Object.result c.from_residual-in_err-step-in-Object.ensures.1 in
    let u = next_object c.args.names.now c.args.self.now.sets c.args.macros.now (text_of c.args.names.now c.args.self.now.file) more c.args.self.now.slots.items c.in-Object.h c.in-Object.m (c.in-Object.ensures.means (text_of c.args.names.now c.args.self.now.file) more q) in
    rw (p.1, p.2) (object_faults c.args.names.now c.args.names.now c.args.macros.now c.args.self.now c.args.self.now more c.requires.machine c.requires.macros (grows_same c.args.names.now) (grows_same c.args.self.now.sets) refl c.expansion_follows_the_rules.ensures c.in-Object.h c.in-Object.m.now u.0.0 c.in_err-step-in-Object.field-0.0 u.0.1 u.0.2 c.in_err-step-in-Object.ensures.faults)

pub returns-in_ok-step-in-Object-clause-step : goal.returns-in_ok-step-in-Object-clause-step
returns-in_ok-step-in-Object-clause-step c = λ more q.
    let u = next_object c.args.names.now c.args.self.now.sets c.args.macros.now (text_of c.args.names.now c.args.self.now.file) more c.args.self.now.slots.items c.in-Object.h c.in-Object.m (c.in-Object.ensures.means (text_of c.args.names.now c.args.self.now.file) more q) in
    let e = c.in_ok-step-in-Object.ensures.same in
    let w = put_from c.args.names.now c.object.new.names c.args.self.now c.object.new.self _ (drop 1 c.args.self.now.slots.items) u.0.0 (ap (drop 1) u.0.1) c.in_ok-step-in-Object.ensures.put in
    is_more c.args.names.now c.object.new.names c.args.macros.now c.args.self.now c.object.new.self more c.in_ok-step-in-Object.step c.in_ok-step-in-Object.ensures.more
    (objects c.args.names.now c.object.new.names c.args.macros.now c.args.self.now c.object.new.self more c.requires.machine c.requires.macros w.names_grow w.sets_grow e.0.2 c.expansion_follows_the_rules.ensures c.in-Object.h c.in-Object.m.now u.0.0 u.0.1 u.0.2 w e.1)

pub returns-in_ok-step-in-Object-clause-machine : goal.returns-in_ok-step-in-Object-clause-machine
returns-in_ok-step-in-Object-clause-machine c =
    let u = next_object c.args.names.now c.args.self.now.sets c.args.macros.now (text_of c.args.names.now c.args.self.now.file) [] c.args.self.now.slots.items c.in-Object.h c.in-Object.m (c.in-Object.ensures.means (text_of c.args.names.now c.args.self.now.file) [] (λ _. refl)) in
    let e = c.in_ok-step-in-Object.ensures.same in
    let w = put_from c.args.names.now c.object.new.names c.args.self.now c.object.new.self _ (drop 1 c.args.self.now.slots.items) u.0.0 (ap (drop 1) u.0.1) c.in_ok-step-in-Object.ensures.put in
    object_machine c.args.names.now c.object.new.names c.args.macros.now c.args.self.now c.object.new.self c.requires.machine c.requires.macros w.names_grow w.sets_grow e.0 w.tables c.in-Object.h u.0.0 w.list u.0.1 w.slots w.known e.1 w.limit

pub returns-in_err-step-in-Object-clause-length : goal.returns-in_err-step-in-Object-clause-length
returns-in_err-step-in-Object-clause-length c =
    let u = next_object c.args.names.now c.args.self.now.sets c.args.macros.now (text_of c.args.names.now c.args.self.now.file) [] c.args.self.now.slots.items c.in-Object.h c.in-Object.m (c.in-Object.ensures.means (text_of c.args.names.now c.args.self.now.file) [] (λ _. refl)) in
    omega (arith, c.in_err-step-in-Object.ensures.length, found_short c.args.names.now c.args.macros.now c.in-Object.h.token.text c.in-Object.m.now c.requires.macros u.1)

pub returns-in_ok-step-in-Object-clause-length : goal.returns-in_ok-step-in-Object-clause-length
returns-in_ok-step-in-Object-clause-length c =
    let u = next_object c.args.names.now c.args.self.now.sets c.args.macros.now (text_of c.args.names.now c.args.self.now.file) [] c.args.self.now.slots.items c.in-Object.h c.in-Object.m (c.in-Object.ensures.means (text_of c.args.names.now c.args.self.now.file) [] (λ _. refl)) in
    omega (arith, c.in_ok-step-in-Object.ensures.length, found_short c.args.names.now c.args.macros.now c.in-Object.h.token.text c.in-Object.m.now c.requires.macros u.1)

pub returns-in_err-step-in-ArgumentEnd-clause-faults : goal.returns-in_err-step-in-ArgumentEnd-clause-faults
returns-in_err-step-in-ArgumentEnd-clause-faults c = λ more q.
    let p = err_from_is_err_and c.from_residual.result c.from_residual.ensures.1 in
    let u = next_end c.args.names.now c.args.self.now.sets c.args.macros.now (text_of c.args.names.now c.args.self.now.file) [] c.args.self.now.slots.items (c.in-ArgumentEnd.ensures.means (text_of c.args.names.now c.args.self.now.file) [] (λ _. refl)) in
    rw (p.1, p.2) (ended_fault c.expansion_follows_the_rules.ensures c.args.names.now c.args.names.now c.args.macros.now c.args.self.now c.args.self.now c.requires.machine c.requires.macros (refl, refl, refl, refl) u.0 u.1 more c.in_err-step-in-ArgumentEnd.field-0.0 c.in_err-step-in-ArgumentEnd.ensures.faults)

pub returns-in_ok-step-in-ArgumentEnd-clause-step : goal.returns-in_ok-step-in-ArgumentEnd-clause-step
returns-in_ok-step-in-ArgumentEnd-clause-step c = λ more q.
    let u = next_end c.args.names.now c.args.self.now.sets c.args.macros.now (text_of c.args.names.now c.args.self.now.file) [] c.args.self.now.slots.items (c.in-ArgumentEnd.ensures.means (text_of c.args.names.now c.args.self.now.file) [] (λ _. refl)) in
    ended_step c.expansion_follows_the_rules.ensures c.args.names.now c.end_argument.new.names c.args.macros.now c.args.self.now c.end_argument.new.self c.requires.machine c.requires.macros c.in_ok-step-in-ArgumentEnd.ensures.same u.0 u.1 more c.in_ok-step-in-ArgumentEnd.step (c.in_ok-step-in-ArgumentEnd.ensures.ended u.0 u.1)

pub returns-in_ok-step-in-ArgumentEnd-clause-machine : goal.returns-in_ok-step-in-ArgumentEnd-clause-machine
returns-in_ok-step-in-ArgumentEnd-clause-machine c =
    let u = next_end c.args.names.now c.args.self.now.sets c.args.macros.now (text_of c.args.names.now c.args.self.now.file) [] c.args.self.now.slots.items (c.in-ArgumentEnd.ensures.means (text_of c.args.names.now c.args.self.now.file) [] (λ _. refl)) in
    ended_machine c.expansion_follows_the_rules.ensures c.args.names.now c.end_argument.new.names c.args.macros.now c.args.self.now c.end_argument.new.self c.requires.machine c.requires.macros c.in_ok-step-in-ArgumentEnd.ensures.same u.0 u.1 c.in_ok-step-in-ArgumentEnd.step (c.in_ok-step-in-ArgumentEnd.ensures.ended u.0 u.1)

pub returns-in_ok-step-in-ArgumentEnd-clause-smaller : goal.returns-in_ok-step-in-ArgumentEnd-clause-smaller
returns-in_ok-step-in-ArgumentEnd-clause-smaller c =
    let u = next_end c.args.names.now c.args.self.now.sets c.args.macros.now (text_of c.args.names.now c.args.self.now.file) [] c.args.self.now.slots.items (c.in-ArgumentEnd.ensures.means (text_of c.args.names.now c.args.self.now.file) [] (λ _. refl)) in
    ended_smaller c.expansion_follows_the_rules.ensures c.args.names.now c.end_argument.new.names c.args.macros.now c.args.self.now c.end_argument.new.self c.requires.machine c.requires.macros c.in_ok-step-in-ArgumentEnd.ensures.same u.0 u.1 c.in_ok-step-in-ArgumentEnd.step (c.in_ok-step-in-ArgumentEnd.ensures.ended u.0 u.1)

pub enter-requires-clause-count : goal.enter-requires-clause-count
enter-requires-clause-count c =
    (next_call c.args.names.now c.args.self.now.sets c.args.macros.now (text_of c.args.names.now c.args.self.now.file) [] c.args.self.now.slots.items c.in-Call.h c.in-Call.m c.in-Call.count c.in-Call.close (c.in-Call.ensures.means (text_of c.args.names.now c.args.self.now.file) [] (λ _. refl))).2

pub returns-in_err-enter-in-Call-clause-faults : goal.returns-in_err-enter-in-Call-clause-faults
returns-in_err-enter-in-Call-clause-faults c = λ more q.
    let p = err_from_is_err_and c.from_residual-in_err-enter-in-Call.result c.from_residual-in_err-enter-in-Call.ensures.1 in
    let u = next_call c.args.names.now c.args.self.now.sets c.args.macros.now (text_of c.args.names.now c.args.self.now.file) more c.args.self.now.slots.items c.in-Call.h c.in-Call.m c.in-Call.count c.in-Call.close (c.in-Call.ensures.means (text_of c.args.names.now c.args.self.now.file) more q) in
    rw (p.1, p.2) (miscounts c.args.names.now c.args.names.now c.args.macros.now c.args.self.now c.args.self.now more c.requires.machine c.requires.macros (grows_same c.args.names.now) (grows_same c.args.self.now.sets) refl c.expansion_follows_the_rules.ensures c.in-Call.h c.in-Call.m.now c.in-Call.count c.in-Call.close u.0 u.1
    c.in_err-enter-in-Call.field-0.0 (c.in_err-enter-in-Call.ensures.faults (slot.Token c.in-Call.h) (slot.Token u.0.opens) u.0.inside u.0.closes u.0.rest u.0.params u.0.slots_are u.0.place u.0.macro_params u.0.counts))

pub returns-in_ok-enter-in-Call-clause-step : goal.returns-in_ok-enter-in-Call-clause-step
returns-in_ok-enter-in-Call-clause-step c = λ more q.
    let u = next_call c.args.names.now c.args.self.now.sets c.args.macros.now (text_of c.args.names.now c.args.self.now.file) more c.args.self.now.slots.items c.in-Call.h c.in-Call.m c.in-Call.count c.in-Call.close (c.in-Call.ensures.means (text_of c.args.names.now c.args.self.now.file) more q) in
    let i = c.in_ok-enter-in-Call.ensures.entered (slot.Token c.in-Call.h) (slot.Token u.0.opens) u.0.inside u.0.closes u.0.rest u.0.params u.0.slots_are u.0.place u.0.macro_params u.0.counts in
    let e = c.in_ok-enter-in-Call.ensures.same in
    entered_step c.args.names.now c.args.macros.now c.args.self.now c.enter.new.self more c.requires.machine c.requires.macros c.expansion_follows_the_rules.ensures c.in-Call.h c.in-Call.m.now c.in-Call.count c.in-Call.close u.0 u.1 i e.0.2 e.2 e.1

pub returns-in_ok-enter-in-Call-clause-machine : goal.returns-in_ok-enter-in-Call-clause-machine
returns-in_ok-enter-in-Call-clause-machine c =
    let u = next_call c.args.names.now c.args.self.now.sets c.args.macros.now (text_of c.args.names.now c.args.self.now.file) [] c.args.self.now.slots.items c.in-Call.h c.in-Call.m c.in-Call.count c.in-Call.close (c.in-Call.ensures.means (text_of c.args.names.now c.args.self.now.file) [] (λ _. refl)) in
    let i = c.in_ok-enter-in-Call.ensures.entered (slot.Token c.in-Call.h) (slot.Token u.0.opens) u.0.inside u.0.closes u.0.rest u.0.params u.0.slots_are u.0.place u.0.macro_params u.0.counts in
    let e = c.in_ok-enter-in-Call.ensures.same in
    entered_machine c.args.names.now c.args.macros.now c.args.self.now c.enter.new.self c.requires.machine c.requires.macros e.0 c.expansion_follows_the_rules.ensures c.in-Call.h c.in-Call.m.now c.in-Call.count c.in-Call.close u.0 u.1 i e.2

pub returns-in_ok-enter-in-Call-clause-smaller : goal.returns-in_ok-enter-in-Call-clause-smaller
returns-in_ok-enter-in-Call-clause-smaller c = λ _.
    let u = next_call c.args.names.now c.args.self.now.sets c.args.macros.now (text_of c.args.names.now c.args.self.now.file) [] c.args.self.now.slots.items c.in-Call.h c.in-Call.m c.in-Call.count c.in-Call.close (c.in-Call.ensures.means (text_of c.args.names.now c.args.self.now.file) [] (λ _. refl)) in
    let i = c.in_ok-enter-in-Call.ensures.entered (slot.Token c.in-Call.h) (slot.Token u.0.opens) u.0.inside u.0.closes u.0.rest u.0.params u.0.slots_are u.0.place u.0.macro_params u.0.counts in
    entered_smaller c.args.names.now c.args.self.now c.enter.new.self c.in-Call.h c.in-Call.m.now [] c.in-Call.count c.in-Call.close _ u.0 i

pub returns-in-End-clause-step : goal.returns-in-End-clause-step
returns-in-End-clause-step c = λ more q.
    let e = next_finish c.args.names.now c.args.self.now.sets c.args.macros.now (text_of c.args.names.now c.args.self.now.file) more c.args.self.now.slots.items (c.in-End.ensures.means (text_of c.args.names.now c.args.self.now.file) more q) in
    let f = wanting_end c.args.names.now c.args.self.now.sets c.args.self.now.finished c.args.self.now.slots.items (λ x. use_of (table_of c.args.names.now c.args.macros.now (text_of c.args.names.now c.args.self.now.file)) (held c.args.names.now c.args.self.now.sets x)) (c.in-End.ensures.wanting (text_of c.args.names.now c.args.self.now.file)) in (
      (refl, refl, end_gives c.expansion_follows_the_rules.ensures c.args.names.now c.args.macros.now c.args.self.now more c.requires.machine e (q f)),
      (refl, refl, end_ahead c.args.names.now c.args.macros.now c.args.self.now more c.requires.machine e (q f)),
    )

pub returns-in-End-clause-wanted : goal.returns-in-End-clause-wanted
returns-in-End-clause-wanted c =
    let e = next_finish c.args.names.now c.args.self.now.sets c.args.macros.now (text_of c.args.names.now c.args.self.now.file) [] c.args.self.now.slots.items (c.in-End.ensures.means (text_of c.args.names.now c.args.self.now.file) [] (λ _. refl)) in
    let f = wanting_end c.args.names.now c.args.self.now.sets c.args.self.now.finished c.args.self.now.slots.items (λ x. use_of (table_of c.args.names.now c.args.macros.now (text_of c.args.names.now c.args.self.now.file)) (held c.args.names.now c.args.self.now.sets x)) (c.in-End.ensures.wanting (text_of c.args.names.now c.args.self.now.file)) in
    (f, no_calls c.args.names.now c.args.macros.now c.args.self.now c.requires.machine (ap ends e), e)

pub returns-in-Hungry-clause-wanted : goal.returns-in-Hungry-clause-wanted
returns-in-Hungry-clause-wanted c =
    let w = wanting_hungry c.args.names.now c.args.self.now.sets c.args.self.now.finished (table_of c.args.names.now c.args.macros.now (text_of c.args.names.now c.args.self.now.file)) c.args.self.now.slots.items (c.in-Hungry.ensures.wanting (text_of c.args.names.now c.args.self.now.file)) in
    (w.0, no_calls c.args.names.now c.args.macros.now c.args.self.now c.requires.machine w.1, w.2)

pub returns-in_ok-step-in-ArgumentEnd-clause-wanted : goal.returns-in_ok-step-in-ArgumentEnd-clause-wanted
returns-in_ok-step-in-ArgumentEnd-clause-wanted c =
    let u = next_end c.args.names.now c.args.self.now.sets c.args.macros.now (text_of c.args.names.now c.args.self.now.file) [] c.args.self.now.slots.items (c.in-ArgumentEnd.ensures.means (text_of c.args.names.now c.args.self.now.file) [] (λ _. refl)) in
    ended_wanted c.args.names.now c.end_argument.new.names c.args.macros.now c.args.self.now c.end_argument.new.self u.0 c.in_ok-step-in-ArgumentEnd.step c.requires.machine u.1 (c.in_ok-step-in-ArgumentEnd.ensures.ended u.0 u.1)

pub returns-in_ok-enter-in-Call-clause-wanted : goal.returns-in_ok-enter-in-Call-clause-wanted
returns-in_ok-enter-in-Call-clause-wanted c =
    let u = next_call c.args.names.now c.args.self.now.sets c.args.macros.now (text_of c.args.names.now c.args.self.now.file) [] c.args.self.now.slots.items c.in-Call.h c.in-Call.m c.in-Call.count c.in-Call.close (c.in-Call.ensures.means (text_of c.args.names.now c.args.self.now.file) [] (λ _. refl)) in
    let i = c.in_ok-enter-in-Call.ensures.entered (slot.Token c.in-Call.h) (slot.Token u.0.opens) u.0.inside u.0.closes u.0.rest u.0.params u.0.slots_are u.0.place u.0.macro_params u.0.counts in
    (entered_wanted c.args.names.now c.args.self.now c.enter.new.self c.in-Call.h c.in-Call.m.now [] u.0.params u.0.inside u.0.closes u.0.rest i, refl)

pub returns-in-End-clause-leaves : goal.returns-in-End-clause-leaves
returns-in-End-clause-leaves c = leaves_same c.args.names.now c.args.self.now.slots.items

pub returns-in-Hungry-clause-leaves : goal.returns-in-Hungry-clause-leaves
returns-in-Hungry-clause-leaves c = leaves_same c.args.names.now c.args.self.now.slots.items

pub returns-in_ok-step-in-Stays-clause-leaves : goal.returns-in_ok-step-in-Stays-clause-leaves
returns-in_ok-step-in-Stays-clause-leaves c =
    let u = next_stays c.args.names.now c.args.self.now.sets c.args.macros.now (text_of c.args.names.now c.args.self.now.file) [] c.args.self.now.slots.items c.in-Stays.h (c.in-Stays.ensures.means (text_of c.args.names.now c.args.self.now.file) [] (λ _. refl)) in
    leaves_front c.args.names.now c.args.names.now c.args.self.now.sets c.args.self.now.slots.items c.keep.new.self.slots.items [] u.0 (slot.Token c.in-Stays.h) (grows_same c.args.names.now) c.requires.machine.slots u.1 (c.in_ok-step-in-Stays.ensures.slots ∙ ap (drop 1) u.1)

pub returns-in_ok-step-in-Predefined-clause-leaves : goal.returns-in_ok-step-in-Predefined-clause-leaves
returns-in_ok-step-in-Predefined-clause-leaves c =
    let u = next_predefined c.args.names.now c.args.self.now.sets c.args.macros.now (text_of c.args.names.now c.args.self.now.file) [] c.args.self.now.slots.items c.in-Predefined.h c.in-Predefined.p (c.in-Predefined.ensures.means (text_of c.args.names.now c.args.self.now.file) [] (λ _. refl)) in
    leaves_front c.args.names.now c.predefined.new.names c.args.self.now.sets c.args.self.now.slots.items c.predefined.new.self.slots.items [] u.0 (slot.Token c.in-Predefined.h) c.in_ok-step-in-Predefined.ensures.given.grows c.requires.machine.slots u.1 (c.in_ok-step-in-Predefined.ensures.slots ∙ ap (drop 1) u.1)

pub returns-in_ok-step-in-Object-clause-leaves : goal.returns-in_ok-step-in-Object-clause-leaves
returns-in_ok-step-in-Object-clause-leaves c =
    let u = next_object c.args.names.now c.args.self.now.sets c.args.macros.now (text_of c.args.names.now c.args.self.now.file) [] c.args.self.now.slots.items c.in-Object.h c.in-Object.m (c.in-Object.ensures.means (text_of c.args.names.now c.args.self.now.file) [] (λ _. refl)) in
    let w = put_from c.args.names.now c.object.new.names c.args.self.now c.object.new.self _ (drop 1 c.args.self.now.slots.items) u.0.0 (ap (drop 1) u.0.1) c.in_ok-step-in-Object.ensures.put in
    leaves_front c.args.names.now c.object.new.names c.args.self.now.sets c.args.self.now.slots.items c.object.new.self.slots.items (tokens w.list) u.0.0 (slot.Token c.in-Object.h) w.names_grow c.requires.machine.slots u.0.1 w.slots

pub returns-in_ok-step-in-ArgumentEnd-clause-leaves : goal.returns-in_ok-step-in-ArgumentEnd-clause-leaves
returns-in_ok-step-in-ArgumentEnd-clause-leaves c =
    let u = next_end c.args.names.now c.args.self.now.sets c.args.macros.now (text_of c.args.names.now c.args.self.now.file) [] c.args.self.now.slots.items (c.in-ArgumentEnd.ensures.means (text_of c.args.names.now c.args.self.now.file) [] (λ _. refl)) in
    leaves_ended c.args.names.now c.end_argument.new.names c.args.macros.now c.args.self.now c.end_argument.new.self u.0 c.in_ok-step-in-ArgumentEnd.step c.requires.machine.slots u.1 (c.in_ok-step-in-ArgumentEnd.ensures.ended u.0 u.1)

pub returns-in_ok-enter-in-Call-clause-leaves : goal.returns-in_ok-enter-in-Call-clause-leaves
returns-in_ok-enter-in-Call-clause-leaves c =
    let u = next_call c.args.names.now c.args.self.now.sets c.args.macros.now (text_of c.args.names.now c.args.self.now.file) [] c.args.self.now.slots.items c.in-Call.h c.in-Call.m c.in-Call.count c.in-Call.close (c.in-Call.ensures.means (text_of c.args.names.now c.args.self.now.file) [] (λ _. refl)) in
    let i = c.in_ok-enter-in-Call.ensures.entered (slot.Token c.in-Call.h) (slot.Token u.0.opens) u.0.inside u.0.closes u.0.rest u.0.params u.0.slots_are u.0.place u.0.macro_params u.0.counts in
    leaves_entered c.args.names.now c.args.self.now c.enter.new.self c.in-Call.h c.in-Call.m.now [] c.in-Call.count c.in-Call.close _ u.0 i

pub returns-in_ok-step-in-ArgumentEnd-clause-wants : goal.returns-in_ok-step-in-ArgumentEnd-clause-wants
returns-in_ok-step-in-ArgumentEnd-clause-wants c = λ w. absurd (only_hungry c.args.names.now c.args.macros.now c.args.self.now turn.ArgumentEnd c.requires.machine (c.in-ArgumentEnd.ensures.means (text_of c.args.names.now c.args.self.now.file)) (c.in-ArgumentEnd.ensures.wanting (text_of c.args.names.now c.args.self.now.file)) w refl)

pub returns-in_err-step-in-ArgumentEnd-clause-wants : goal.returns-in_err-step-in-ArgumentEnd-clause-wants
returns-in_err-step-in-ArgumentEnd-clause-wants c = λ w. absurd (only_hungry c.args.names.now c.args.macros.now c.args.self.now turn.ArgumentEnd c.requires.machine (c.in-ArgumentEnd.ensures.means (text_of c.args.names.now c.args.self.now.file)) (c.in-ArgumentEnd.ensures.wanting (text_of c.args.names.now c.args.self.now.file)) w refl)

pub returns-in_ok-step-in-Stays-clause-wants : goal.returns-in_ok-step-in-Stays-clause-wants
returns-in_ok-step-in-Stays-clause-wants c = λ w. absurd (only_hungry c.args.names.now c.args.macros.now c.args.self.now (turn.Stays c.in-Stays.h) c.requires.machine (c.in-Stays.ensures.means (text_of c.args.names.now c.args.self.now.file)) (c.in-Stays.ensures.wanting (text_of c.args.names.now c.args.self.now.file)) w refl)

pub returns-in_err-step-in-Stays-clause-wants : goal.returns-in_err-step-in-Stays-clause-wants
returns-in_err-step-in-Stays-clause-wants c = λ w. absurd (only_hungry c.args.names.now c.args.macros.now c.args.self.now (turn.Stays c.in-Stays.h) c.requires.machine (c.in-Stays.ensures.means (text_of c.args.names.now c.args.self.now.file)) (c.in-Stays.ensures.wanting (text_of c.args.names.now c.args.self.now.file)) w refl)

pub returns-in_ok-step-in-Predefined-clause-wants : goal.returns-in_ok-step-in-Predefined-clause-wants
returns-in_ok-step-in-Predefined-clause-wants c = λ w. absurd (only_hungry c.args.names.now c.args.macros.now c.args.self.now (turn.Predefined c.in-Predefined.h c.in-Predefined.p) c.requires.machine (c.in-Predefined.ensures.means (text_of c.args.names.now c.args.self.now.file)) (c.in-Predefined.ensures.wanting (text_of c.args.names.now c.args.self.now.file)) w refl)

pub returns-in_err-step-in-Predefined-clause-wants : goal.returns-in_err-step-in-Predefined-clause-wants
returns-in_err-step-in-Predefined-clause-wants c = λ w. absurd (only_hungry c.args.names.now c.args.macros.now c.args.self.now (turn.Predefined c.in-Predefined.h c.in-Predefined.p) c.requires.machine (c.in-Predefined.ensures.means (text_of c.args.names.now c.args.self.now.file)) (c.in-Predefined.ensures.wanting (text_of c.args.names.now c.args.self.now.file)) w refl)

pub returns-in_ok-step-in-Object-clause-wants : goal.returns-in_ok-step-in-Object-clause-wants
returns-in_ok-step-in-Object-clause-wants c = λ w. absurd (only_hungry c.args.names.now c.args.macros.now c.args.self.now (turn.Object c.in-Object.h c.in-Object.m) c.requires.machine (c.in-Object.ensures.means (text_of c.args.names.now c.args.self.now.file)) (c.in-Object.ensures.wanting (text_of c.args.names.now c.args.self.now.file)) w refl)

pub returns-in_err-step-in-Object-clause-wants : goal.returns-in_err-step-in-Object-clause-wants
returns-in_err-step-in-Object-clause-wants c = λ w. absurd (only_hungry c.args.names.now c.args.macros.now c.args.self.now (turn.Object c.in-Object.h c.in-Object.m) c.requires.machine (c.in-Object.ensures.means (text_of c.args.names.now c.args.self.now.file)) (c.in-Object.ensures.wanting (text_of c.args.names.now c.args.self.now.file)) w refl)

pub returns-in_ok-enter-in-Call-clause-wants : goal.returns-in_ok-enter-in-Call-clause-wants
returns-in_ok-enter-in-Call-clause-wants c = λ w. absurd (only_hungry c.args.names.now c.args.macros.now c.args.self.now (turn.Call c.in-Call.h c.in-Call.m c.in-Call.count c.in-Call.close) c.requires.machine (c.in-Call.ensures.means (text_of c.args.names.now c.args.self.now.file)) (c.in-Call.ensures.wanting (text_of c.args.names.now c.args.self.now.file)) w refl)

pub returns-in_err-enter-in-Call-clause-wants : goal.returns-in_err-enter-in-Call-clause-wants
returns-in_err-enter-in-Call-clause-wants c = λ w. absurd (only_hungry c.args.names.now c.args.macros.now c.args.self.now (turn.Call c.in-Call.h c.in-Call.m c.in-Call.count c.in-Call.close) c.requires.machine (c.in-Call.ensures.means (text_of c.args.names.now c.args.self.now.file)) (c.in-Call.ensures.wanting (text_of c.args.names.now c.args.self.now.file)) w refl)

pub returns-in-End-clause-wants : goal.returns-in-End-clause-wants
returns-in-End-clause-wants c = λ w. absurd (only_hungry c.args.names.now c.args.macros.now c.args.self.now turn.End c.requires.machine (c.in-End.ensures.means (text_of c.args.names.now c.args.self.now.file)) (c.in-End.ensures.wanting (text_of c.args.names.now c.args.self.now.file)) w refl)

pub returns-in-Unclosed-clause-wants : goal.returns-in-Unclosed-clause-wants
returns-in-Unclosed-clause-wants c = λ w. absurd (only_hungry c.args.names.now c.args.macros.now c.args.self.now (turn.Unclosed c.in-Unclosed.site) c.requires.machine (c.in-Unclosed.ensures.means (text_of c.args.names.now c.args.self.now.file)) (c.in-Unclosed.ensures.wanting (text_of c.args.names.now c.args.self.now.file)) w refl)
