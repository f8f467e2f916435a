use Rattle.std.proofs.Common.{◌∙◌, map, arith, drop}
use Rattle.std.proofs.lemmas.Result.{err_from_is_err_and}
use Rattle.cr_expand.specs.Held.{watch_of}
use Rattle.std.proofs.lemmas.List.{drop_all}
use Rattle.cr_expand.proofs.Kept.{watch_kept}
use Rattle.cr_expand.proofs.Fills.{filling_goes_on, filling_stops, filling_ends}
use Rattle.cr_expand.proofs.fill.fill.Goals as goal

pub returns-in_err-fill_one-clause-stops : goal.returns-in_err-fill_one-clause-stops
returns-in_err-fill_one-clause-stops c = λ hide. let p = err_from_is_err_and c.from_residual.result c.from_residual.ensures.1 in
    rw (p.1, p.2)
    (filling_stops (watch_of c.args.names.now c.args.notes.now) c.args.notes.now.seen.items c.loop-i.notes.seen.items c.args.names.now c.loop-i.names c.args.sets.now hide c.args.name (map (λ v. v.items) c.args.raw.now) (map (λ v. v.items) c.args.full.now) c.args.items.now c.loop-i.i _ c.loop-i.parts.items _
    c.requires.tables c.requires.name c.requires.named c.requires.raw c.requires.full c.loop-i-test.true c.loop-i.invariant.filling (c.in_err-fill_one.ensures.stops hide))

pub loop-i-preserved : goal.loop-i-preserved
loop-i-preserved c = record {
  room = omega (arith, c.in_ok-fill_one.ensures.length, c.loop-i.invariant.room);
  joins = omega (arith, c.in_ok-fill_one.ensures.joins, c.loop-i.invariant.joins);
  same = (c.in_ok-fill_one.ensures.same.0 ∙ c.loop-i.invariant.same.0, c.in_ok-fill_one.ensures.same.1 ∙ c.loop-i.invariant.same.1);
  filling = filling_goes_on (watch_of c.args.names.now c.args.notes.now) (watch_of c.loop-i.names c.loop-i.notes) c.args.notes.now.seen.items c.loop-i.notes.seen.items c.fill_one.new.notes.seen.items c.args.names.now c.loop-i.names c.fill_one.new.names c.args.sets.now c.args.name (map (λ v. v.items) c.args.raw.now) (map (λ v. v.items) c.args.full.now) c.args.items.now c.loop-i.i _ c.loop-i.parts.items c.fill_one.new.parts.items
      c.requires.tables c.requires.name c.requires.named c.requires.raw c.requires.full
      (watch_kept c.args.names.now c.loop-i.names c.args.notes.now c.loop-i.notes c.loop-i.invariant.filling.grows c.requires.watched c.loop-i.invariant.same.0 c.loop-i.invariant.same.1)
      c.loop-i-test.true c.in_ok-fill_one.ensures.grows c.in_ok-fill_one.ensures.distinct c.loop-i.invariant.filling (λ hide. c.in_ok-fill_one.ensures.adds hide);
}

pub returns-clause-does : goal.returns-clause-does
returns-clause-does c = λ hide.
    filling_ends (watch_of c.args.names.now c.args.notes.now) c.args.notes.now.seen.items c.loop-i.notes.seen.items c.args.names.now c.loop-i.names c.args.sets.now hide c.args.name (map (λ v. v.items) c.args.raw.now) (map (λ v. v.items) c.args.full.now) c.args.items.now (drop c.loop-i.i c.args.items.now) c.loop-i.parts.items
    (drop_all c.loop-i.i c.args.items.now (omega arith)) c.loop-i.invariant.filling
