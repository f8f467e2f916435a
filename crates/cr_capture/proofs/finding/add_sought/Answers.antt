use Rattle.std.proofs.Common.{◌<◌, ◌∙◌, length, refl}
use Rattle.std.proofs.lemmas.List.Elements.{All-same}
use Rattle.cr_capture.proofs.Found.{begins}
use Rattle.cr_capture.proofs.Sought.{takes_fit, leaves_unfit, all_sought}
use Rattle.cr_capture.proofs.finding.add_sought.Goals as goal

pub loop-d-init : goal.loop-d-init
loop-d-init c =
    let f = c.args.scopes.now in
    let e = c.into_iter-d-iterator.ensures.into_iter_gives in
    begins _ _ _ _ _ (All-same (λ n. n < length f.entries) _ _ e c.lookup_all-d-items.ensures.given) (e ∙ c.lookup_all-d-items.ensures.value)

pub loop-d-preserved-in-Continue-1 : goal.loop-d-preserved-in-Continue-1
loop-d-preserved-in-Continue-1 c =
    takes_fit _ _ _ _ _ _ _ c.args.scopes.now _ _ _ _ _ c.in-Some.ensures.steps c.loop-d.invariant c.is_fit.ensures c.if-is_fit.true c.in_ok-push.ensures.items

pub loop-d-preserved : goal.loop-d-preserved
loop-d-preserved c =
    leaves_unfit _ _ _ _ _ _ _ c.args.scopes.now _ _ _ _ _ c.in-Some.ensures.steps c.loop-d.invariant c.is_fit.ensures c.if-is_fit.false refl

pub returns : goal.returns
returns c =
    all_sought c.args.scopes.now _ _ _ _ _ c.visible_means.ensures _ _ _ _ c.in-None.ensures.steps.0 c.loop-d.invariant
