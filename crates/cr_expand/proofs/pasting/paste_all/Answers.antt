use Rattle.std.proofs.Common.{length, ◌∙◌, ◌+◌, rules, arith, drop}
use Rattle.std.proofs.lemmas.Result.{err_from_is_err_and}
use Rattle.std.proofs.lemmas.List.{drop_all}
use Rattle.cr_expand.specs.Held.{watch_of}
use Rattle.cr_expand.proofs.Joins.{joins_room, joins_most}
use Rattle.cr_expand.specs.Pasting.{pending}
use Rattle.cr_expand.proofs.Kept.{watch_kept}
use Rattle.cr_expand.proofs.Telling.{stops_memory}
use Rattle.cr_expand.proofs.PastingLaws.{pasting_goes_on, pasting_stops, pasting_ends, pasting_known}
use Rattle.cr_expand.specs.Parts.{part_texts}
use Rattle.cr_expand.proofs.pasting.paste_all.Goals as goal

pub returns-in_err-take_part-clause-stops : goal.returns-in_err-take_part-clause-stops
returns-in_err-take_part-clause-stops c = λ hide. let p = err_from_is_err_and c.from_residual.result c.from_residual.ensures.1 in
    rw (p.1, p.2)
    (pasting_stops (watch_of c.args.names.now c.args.notes.now) c.args.notes.now.seen.items c.loop-i.notes.seen.items c.args.names.now c.loop-i.names c.args.sets.now c.loop-i.sets hide c.args.name c.args.parts.now c.loop-i.i _ c.loop-i.state _
    c.requires.tables c.requires.name c.requires.parts c.loop-i-test.true c.loop-i.invariant.pasting (c.in_err-take_part.ensures.stops hide (part_texts c.args.names.now c.args.sets.now (drop (c.loop-i.i + 1) c.args.parts.now))))

pub loop-i-preserved : goal.loop-i-preserved
loop-i-preserved c = record {
  room = joins_room c.args.parts.now c.loop-i.i _ (length c.args.names.now) (length c.loop-i.names) (length c.take_part.new.names) (pending c.loop-i.state.pasting) (pending c.take_part.new.state.pasting) c.loop-i-test.true c.in_ok-take_part.ensures.length c.loop-i.invariant.room;
  same = (c.in_ok-take_part.ensures.same.0 ∙ c.loop-i.invariant.same.0, c.in_ok-take_part.ensures.same.1 ∙ c.loop-i.invariant.same.1);
  pasting = pasting_goes_on (watch_of c.args.names.now c.args.notes.now) (watch_of c.loop-i.names c.loop-i.notes) c.args.notes.now.seen.items c.loop-i.notes.seen.items c.take_part.new.notes.seen.items c.args.names.now c.loop-i.names c.take_part.new.names c.args.sets.now c.loop-i.sets c.take_part.new.sets c.args.name c.args.parts.now c.loop-i.i _ c.loop-i.state c.take_part.new.state
      c.requires.tables c.requires.name c.requires.parts
      (watch_kept c.args.names.now c.loop-i.names c.args.notes.now c.loop-i.notes c.loop-i.invariant.pasting.grows c.requires.watched c.loop-i.invariant.same.0 c.loop-i.invariant.same.1)
      c.loop-i-test.true c.in_ok-take_part.ensures.grows c.in_ok-take_part.ensures.sets_grow c.in_ok-take_part.ensures.tables c.loop-i.invariant.pasting c.in_ok-take_part.ensures.takes;
}

pub returns-in_err-put-clause-stops : goal.returns-in_err-put-clause-stops
returns-in_err-put-clause-stops c = λ hide. search (rules, stops_memory)

pub returns-clause-does : goal.returns-clause-does
returns-clause-does c = λ hide.
    pasting_ends (watch_of c.args.names.now c.args.notes.now) c.args.notes.now.seen.items c.loop-i.notes.seen.items c.args.names.now c.loop-i.names c.args.sets.now c.loop-i.sets hide c.args.name c.args.parts.now (drop c.loop-i.i c.args.parts.now) c.loop-i.state c.put.new.out.items
    (drop_all c.loop-i.i c.args.parts.now (omega arith)) c.in_ok-put.ensures c.loop-i.invariant.pasting

pub returns-clause-known : goal.returns-clause-known
returns-clause-known c = pasting_known c.loop-i.names c.loop-i.sets c.loop-i.state c.put.new.out.items c.in_ok-put.ensures c.loop-i.invariant.pasting.known

pub returns-in_err-take_part-clause-length : goal.returns-in_err-take_part-clause-length
returns-in_err-take_part-clause-length c =
    joins_most c.args.parts.now c.loop-i.i _ (length c.args.names.now) (length c.loop-i.names) (length c.take_part.new.names) (pending c.loop-i.state.pasting) c.loop-i-test.true c.in_err-take_part.ensures.most c.loop-i.invariant.room
