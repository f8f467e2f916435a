use Rattle.std.proofs.Common.{◌<◌, ◌∙◌, length, refl}
use Rattle.std.proofs.lemmas.List.Elements.{All-same}
use Rattle.cr_capture.proofs.Outermost.{least_begins, step_takes, step_leaves, least_ends}
use Rattle.cr_capture.proofs.finding.outermost_typedef.Goals as goal

pub loop-d-init : goal.loop-d-init
loop-d-init c =
    let f = c.args.scopes.now in
    let e = c.into_iter-d-iterator.ensures.into_iter_gives in
    least_begins _ _ _ _ _ (All-same (λ n. n < length f.entries) _ _ e c.lookup_all-d-items.ensures.given) (e ∙ c.lookup_all-d-items.ensures.value) refl

pub loop-d-preserved-then-is_typedef : goal.loop-d-preserved-then-is_typedef
loop-d-preserved-then-is_typedef c =
    step_takes _ c.args.scopes.now _ _ _ _ _ _ _ c.visible_means.ensures c.in-Some.ensures.steps c.loop-d.invariant c.get.ensures c.is_typedef.ensures c.if-is_typedef.true _ _ c.depth.ensures c.least.ensures

pub loop-d-preserved : goal.loop-d-preserved
loop-d-preserved c =
    step_leaves _ c.args.scopes.now _ _ _ _ _ _ _ c.visible_means.ensures c.in-Some.ensures.steps c.loop-d.invariant c.get.ensures c.is_typedef.ensures c.if-is_typedef.false

pub returns : goal.returns
returns c = least_ends _ c.args.scopes.now _ _ c.visible_means.ensures c.in-None.ensures.steps.0 _ c.loop-d.invariant
