use Rattle.std.proofs.Common.{◌∙◌, arith, map, [], sym, ap}
use Rattle.std.proofs.lemmas.List.{drop_all, length-map, get_or-map}
use Rattle.cr_expand.specs.Held.{watch_of}
use Rattle.cr_expand.proofs.Noted.{same_watch}
use Rattle.cr_expand.proofs.Marks.{dropped_more, dropped_all}
use Rattle.cr_expand.proofs.subst.note_dropped.Goals as goal

pub loop-n-preserved : goal.loop-n-preserved
loop-n-preserved c = record {
  seen = λ sets items u.
      let long = length-map c.args.raw.now (λ v. v.items) in
      dropped_more (watch_of c.args.names.now c.args.notes.now) (watch_of c.args.names.now c.loop-n.notes) c.args.names.now sets items (map (λ v. v.items) c.args.raw.now) c.loop-n.n c.deref.result.now _ c.loop-n.notes.seen.items c.note_one.new.notes.seen.items _
      (omega (arith, long, c.loop-n-test.true)) (c.deref.ensures.value ∙ ap (λ v. v.items) c.index-raw-n.is ∙ sym (get_or-map (λ v. v.items) c.args.raw.now c.loop-n.n c.index-raw-n.result [] c.loop-n-test.true)) (same_watch c.args.names.now c.loop-n.notes c.args.notes.now c.loop-n.invariant.same.0 c.loop-n.invariant.same.1) (u c.loop-n.n c.loop-n-test.true)
      (c.in_ok-note_one.ensures.seen sets) (c.loop-n.invariant.seen sets items u);
  same = (c.in_ok-note_one.ensures.same.0 ∙ c.loop-n.invariant.same.0, c.in_ok-note_one.ensures.same.1 ∙ c.loop-n.invariant.same.1);
}

pub returns-clause-seen : goal.returns-clause-seen
returns-clause-seen c = λ sets items u.
    let long = length-map c.args.raw.now (λ v. v.items) in
    dropped_all (watch_of c.args.names.now c.args.notes.now) c.args.names.now sets items (map (λ v. v.items) c.args.raw.now) c.loop-n.n c.loop-n.notes.seen.items _
    (drop_all c.loop-n.n (map (λ v. v.items) c.args.raw.now) (omega (arith, long))) (c.loop-n.invariant.seen sets items u)
