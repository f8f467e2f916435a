use Rattle.std.proofs.Common.{◌≡◌, suc, ◌+◌, Some, sym, ap, ◌∙◌, arith, drop, drop-cons, get_or}
use Rattle.cr_base.specs.declared.token.Place.{Place}
use Rattle.cr_class.specs.ShownOrder.{shown_cmp}
use Rattle.cr_class.specs.Declarations.{least, lesser}
use Rattle.cr_class.proofs.steps.least_place.Goals as goal

pub loop-place-preserved : goal.loop-place-preserved
loop-place-preserved c =
    let R = shown_cmp c.args.snapshot.now in
    let d : Place = record { path = record { 0 = 0 }; offset = 0 } in
    let next : c.loop-place.place-index + 1 ≡ suc c.loop-place.place-index = omega arith in
    ap (λ p. least R (Some p) (drop (c.loop-place.place-index + 1) c.args.places.now)) c.first_shown.ensures
    ∙ ap (λ n. least R (Some (lesser R c.loop-place.best (get_or c.args.places.now c.loop-place.place-index d))) (drop n c.args.places.now)) next
    ∙ sym (ap (least R c.loop-place.best) (drop-cons c.args.places.now c.loop-place.place-index d c.loop-place-test.true)) ∙ c.loop-place.invariant
