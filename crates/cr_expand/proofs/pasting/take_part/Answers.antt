use Rattle.std.proofs.Common.{sym, subst, refl, true, false, Some}
use Rattle.std.proofs.lemmas.Result.{err_from_is_err_and}
use Rattle.cr_expand.specs.Held.{watch_of}
use Rattle.cr_expand.specs.Pasting.{Takes}
use Rattle.cr_expand.proofs.PastingLaws.{takes_joins, takes_placemarker, takes_pasted, pasted_stops}
use Rattle.cr_expand.proofs.pasting.take_part.Goals as goal

pub returns-in-Joins-clause-takes : goal.returns-in-Joins-clause-takes
returns-in-Joins-clause-takes c =
    subst (λ x. Takes (watch_of c.args.names.now c.args.notes.now) c.args.notes.now.seen.items c.args.notes.now.seen.items c.args.names.now c.args.names.now c.args.sets.now c.args.sets.now c.args.name c.args.state.now (record c.args.state.now { pasting = true }) x) (sym c.in-Joins.is)
    (takes_joins (watch_of c.args.names.now c.args.notes.now) c.args.notes.now.seen.items c.args.names.now c.args.sets.now c.args.name c.args.state.now (record c.args.state.now { pasting = true }) c.requires.left refl refl refl)

pub returns-then-state-clause-takes : goal.returns-then-state-clause-takes
returns-then-state-clause-takes c =
    subst (λ x. Takes (watch_of c.args.names.now c.args.notes.now) c.args.notes.now.seen.items c.args.notes.now.seen.items c.args.names.now c.args.names.now c.args.sets.now c.args.sets.now c.args.name c.args.state.now (record c.args.state.now { pasting = false }) x) (sym c.in-Placemarker.is)
    (takes_placemarker (watch_of c.args.names.now c.args.notes.now) c.args.notes.now.seen.items c.args.names.now c.args.sets.now c.args.name c.args.state.now (record c.args.state.now { pasting = false }) c.requires.left c.if-state.true refl refl refl)

pub returns-in_ok-made-in-Is-clause-takes : goal.returns-in_ok-made-in-Is-clause-takes
returns-in_ok-made-in-Is-clause-takes c =
    subst (λ x. Takes (watch_of c.args.names.now c.args.notes.now) c.args.notes.now.seen.items c.paste_after.new.notes.seen.items c.args.names.now c.paste_after.new.names c.args.sets.now c.paste_after.new.sets c.args.name c.args.state.now (record c.args.state.now { left = Some c.in_ok-made-in-Is.made; pasting = false }) x) (sym c.in-Is.is)
    (takes_pasted (watch_of c.args.names.now c.args.notes.now) c.args.notes.now.seen.items c.paste_after.new.notes.seen.items c.args.names.now c.paste_after.new.names c.args.sets.now c.paste_after.new.sets c.args.name c.args.state.now (record c.args.state.now { left = Some c.in_ok-made-in-Is.made; pasting = false })
    c.in-Is.b c.in_ok-made-in-Is.made c.in_ok-made-in-Is.ensures.known c.if-not-state.false refl refl refl (λ hide. c.in_ok-made-in-Is.ensures.does hide))

pub returns-in_err-made-in-Is-clause-stops : goal.returns-in_err-made-in-Is-clause-stops
returns-in_err-made-in-Is-clause-stops c = λ hide ps. let p = err_from_is_err_and c.from_residual-in_err-made-in-Is.result c.from_residual-in_err-made-in-Is.ensures.1 in
    rw (p.1, p.2) (pasted_stops c.args.names.now c.args.sets.now hide c.args.name c.args.state.now.left c.args.state.now.pasting c.args.part c.in-Is.b _ ps c.in-Is.is c.if-not-state.false (c.in_err-made-in-Is.ensures.stops hide))
