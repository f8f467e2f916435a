use Rattle.std.proofs.Common.{◌≡◌, suc, ◌+◌, Some, sym, ap, ◌∙◌, arith, drop, drop-cons, get_or}
use Rattle.cr_class.specs.declared.uses.Use.{Use}
use Rattle.cr_base.specs.declared.cause.Role.TheVariants as role
use Rattle.cr_class.specs.Verdict.{use_cmp}
use Rattle.cr_class.specs.Declarations.{least, lesser}
use Rattle.cr_class.proofs.steps.least_use.Goals as goal

pub loop-other-preserved : goal.loop-other-preserved
loop-other-preserved c =
    let R = use_cmp c.args.snapshot.now in
    let d : Use = record { place = record { path = record { 0 = 0 }; offset = 0 }; role = role.Final } in
    let next : c.loop-other.other-index + 1 ≡ suc c.loop-other.other-index = omega arith in
    ap (λ p. least R (Some p) (drop (c.loop-other.other-index + 1) c.args.uses.now)) c.first_use.ensures
    ∙ ap (λ n. least R (Some (lesser R c.loop-other.best (get_or c.args.uses.now c.loop-other.other-index d))) (drop n c.args.uses.now)) next
    ∙ sym (ap (least R c.loop-other.best) (drop-cons c.args.uses.now c.loop-other.other-index d c.loop-other-test.true)) ∙ c.loop-other.invariant
