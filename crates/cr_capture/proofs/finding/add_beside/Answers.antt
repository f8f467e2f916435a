use Rattle.std.proofs.Common.{◌<◌, ◌∙◌, length, refl}
use Rattle.std.proofs.lemmas.List.Elements.{All-same}
use Rattle.cr_capture.proofs.Found.{begins}
use Rattle.cr_capture.proofs.Beside.{takes_beside, leaves_other, all_beside}
use Rattle.cr_capture.proofs.finding.add_beside.Goals as goal

pub loop-d-init : goal.loop-d-init
loop-d-init c =
    let f = c.args.scopes.now in
    begins _ _ _ _ _ (All-same (λ n. n < length f.entries) _ _ c.into_iter-d-iterator.ensures.into_iter_gives c.lookup_all-d-items.ensures.given) refl

pub loop-d-preserved : goal.loop-d-preserved
loop-d-preserved c =
    leaves_other _ _ _ _ _ _ _ c.args.scopes.now c.args.c c.args.named c.in-Some.d _ _ c.in-Some.ensures.steps c.loop-d.invariant c.depth.ensures c.depth-in-loop-d.ensures c.if-depth.false refl

pub loop-d-preserved-in-Continue-1 : goal.loop-d-preserved-in-Continue-1
loop-d-preserved-in-Continue-1 c =
    takes_beside _ _ _ _ _ _ _ c.args.scopes.now c.args.c c.args.named c.in-Some.d _ _ c.in-Some.ensures.steps c.loop-d.invariant c.depth.ensures c.depth-in-loop-d.ensures _ _ c.later_token-token.ensures c.if-depth.true c.unwrap_or.ensures c.in_ok-push.ensures.items

pub returns : goal.returns
returns c =
    let f = c.args.scopes.now in
    all_beside f c.args.c _ c.args.named _ c.visible_means.ensures c.get.ensures c.requires _ _ _ _ _ (c.into_iter-d-iterator.ensures.into_iter_gives ∙ c.lookup_all-d-items.ensures.value) c.in-None.ensures.steps.0 c.loop-d.invariant
