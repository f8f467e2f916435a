use Rattle.std.proofs.Common.{◌≡◌, ◌+◌, Some, length, get_or, refl, sym, ◌∙◌, subst, arith, Bor}
use Rattle.std.proofs.lemmas.Option.{slice_get_read, slice_get_within}
use Rattle.std.specs.BTreeMap.{get_by}
use Rattle.cr_class.proofs.Leading.{AreLeading, more, alike}
use Rattle.cr_class.proofs.graph.leaders.Goals as goal

pub loop-i-preserved : goal.loop-i-preserved
loop-i-preserved g c =
    let R = g.T.Ord.cmp in
    let item = c.index-items-i.result in
    let at = slice_get_read c.args.items.now (length c.args.items.now) c.loop-i.i item refl c.loop-i-test.true c.index-items-i.is in
    subst (λ l. AreLeading R c.args.items.now (c.loop-i.i + 1) l (λ q. get_by (λ k. R q k.now) c.first_of.new.firsts)) (sym c.in_ok-push.ensures.items)
    (more R g.met.T.Ord.total c.args.items.now c.loop-i.i c.loop-i.leaders.items (λ q. get_by (λ k. R q k.now) c.loop-i.firsts) item at c.loop-i.invariant
    (λ q. get_by (λ k. R q k.now) c.first_of.new.firsts) c.in_ok-first.first
    (alike g.met.T.Ord.total (λ (k : Bor _). k.now) c.loop-i.firsts.entries) c.in_ok-first.ensures)

pub returns-clause-equal : goal.returns-clause-equal
returns-clause-equal g c i x at =
    let lt = slice_get_within c.args.items.now i x at in
    c.loop-i.invariant.first x (get_or c.loop-i.leaders.items i 0) (c.loop-i.invariant.found i x (omega (arith, lt, c.loop-i-test.false)) at)

pub returns-clause-one : goal.returns-clause-one
returns-clause-one g c i j x y at_i at_j tied =
    let same : Some (get_or c.loop-i.leaders.items i 0) ≡ Some (get_or c.loop-i.leaders.items j 0) =
    sym (c.loop-i.invariant.found i x (omega (arith, slice_get_within c.args.items.now i x at_i, c.loop-i-test.false)) at_i)
    ∙ alike g.met.T.Ord.total (λ (k : Bor _). k.now) c.loop-i.firsts.entries x y tied
    ∙ c.loop-i.invariant.found j y (omega (arith, slice_get_within c.args.items.now j y at_j, c.loop-i-test.false)) at_j in
    cc
