use Rattle.std.proofs.Common.{◌≡◌, ◌<◌, ℕ, ◌++◌, [], ◌∷◌, false, List, length, map, get_or, refl, sym, ap, ◌∙◌, subst, arith, rules, Vec, Global}
use Rattle.std.proofs.lemmas.List.{length-map, get_or-map, get_or_default, length-replicate}
use Rattle.cr_class.proofs.Reaching.{at_first, passed, found, whole, is_node, less, IsSearch, get_or_same}
use Rattle.cr_class.proofs.graph.reached.Goals as goal

abbrev items : Vec ℕ Global → List ℕ
items v = v.items

none : (v : Vec ℕ Global) → v.len ≡ 0 → v.items ≡ []
none v e = empty v.items (sym v.ok.0 ∙ e)
  where
    empty : (ns : List ℕ) → length ns ≡ 0 → ns ≡ []
    empty [] h = refl
    empty (n ∷ ns) h = let bad : ⊥ = omega (arith, h) in absurd bad

pub index-requires : goal.index-requires
index-requires c =
    let node = is_node (map items c.args.links.now) c.args.start.items c.loop-node.seen.items c.loop-node.left.items c.pop.new.self.items c.in-Some.node c.in-Some.ensures.items c.loop-node.invariant in
    omega (arith, node, c.loop-node.seen.ok)

pub index_mut-requires : goal.index_mut-requires
index_mut-requires c =
    let node = is_node (map items c.args.links.now) c.args.start.items c.loop-node.seen.items c.loop-node.left.items c.pop.new.self.items c.in-Some.node c.in-Some.ensures.items c.loop-node.invariant in
    omega (arith, node, c.loop-node.seen.ok)

pub bounds-links-node : goal.bounds-links-node
bounds-links-node c =
    let node = is_node (map items c.args.links.now) c.args.start.items c.loop-node.seen.items c.loop-node.left.items c.pop.new.self.items c.in-Some.node c.in-Some.ensures.items c.loop-node.invariant in
    omega (arith, node, c.loop-node.invariant.count, length-map c.args.links.now items)

pub loop-node-init : goal.loop-node-init
loop-node-init c =
    let links = map items c.args.links.now in
    let seen = c.in_ok-seen.seen.items in
    let same = c.in_ok-seen.ensures.items_if_clones_equal (λ y e. e) in
    at_first links c.args.start.items seen
    (ap length same ∙ length-replicate (length c.args.links.now) false ∙ sym (length-map c.args.links.now items))
    (λ n. ap (λ l. get_or l n false) same ∙ get_or_same (length c.args.links.now) n false)
    (λ n has. omega (arith, c.requires.start n has, length-map c.args.links.now items))

pub loop-node-preserved : goal.loop-node-preserved
loop-node-preserved c =
    let links = map items c.args.links.now in
    let node = is_node links c.args.start.items c.loop-node.seen.items c.loop-node.left.items c.pop.new.self.items c.in-Some.node c.in-Some.ensures.items c.loop-node.invariant in
    passed links c.args.start.items c.loop-node.seen.items c.loop-node.left.items c.pop.new.self.items c.in-Some.node c.in-Some.ensures.items c.loop-node.invariant
    (get_or_default c.loop-node.seen.items c.in-Some.node false c.index.result.now node ∙ sym c.index.ensures ∙ c.if-not-index.false)

pub loop-node-preserved-in-Continue-branch-2 : goal.loop-node-preserved-in-Continue-branch-2
loop-node-preserved-in-Continue-branch-2 c =
    let links = map items c.args.links.now in
    let node = is_node links c.args.start.items c.loop-node.seen.items c.loop-node.left.items c.pop.new.self.items c.in-Some.node c.in-Some.ensures.items c.loop-node.invariant in
    let within : c.in-Some.node < length c.args.links.now = omega (arith, node, c.loop-node.invariant.count, length-map c.args.links.now items) in
    found links c.args.start.items c.loop-node.seen.items c.loop-node.left.items c.pop.new.self.items c.in-Some.node c.in-Some.ensures.items c.loop-node.invariant
    _ c.extend_from_slice.new.self.items c.requires.links refl
    (c.in_ok-extend_from_slice.ensures.items ∙ ap (λ ns. c.pop.new.self.items ++ ns) (c.deref.ensures.value ∙ ap items c.index-links-node.is ∙ sym (get_or-map items c.args.links.now c.in-Some.node c.index-links-node.result [] within)))

pub loop-node-smaller-in-Continue-branch-2 : goal.loop-node-smaller-in-Continue-branch-2
loop-node-smaller-in-Continue-branch-2 c =
    let links = map items c.args.links.now in
    let node = is_node links c.args.start.items c.loop-node.seen.items c.loop-node.left.items c.pop.new.self.items c.in-Some.node c.in-Some.ensures.items c.loop-node.invariant in
    let within : c.in-Some.node < length c.args.links.now = omega (arith, node, c.loop-node.invariant.count, length-map c.args.links.now items) in
    less links c.args.start.items c.loop-node.seen.items c.loop-node.left.items c.pop.new.self.items c.in-Some.node c.in-Some.ensures.items c.loop-node.invariant
    c.extend_from_slice.new.self.items (get_or_default c.loop-node.seen.items c.in-Some.node false c.index.result.now node ∙ sym c.index.ensures ∙ c.if-not-index.true)
    (c.in_ok-extend_from_slice.ensures.items ∙ ap (λ ns. c.pop.new.self.items ++ ns) (c.deref.ensures.value ∙ ap items c.index-links-node.is ∙ sym (get_or-map items c.args.links.now c.in-Some.node c.index-links-node.result [] within)))

pub returns-clause-complete : goal.returns-clause-complete
returns-clause-complete c =
    whole (map items c.args.links.now) c.args.start.items c.loop-node.seen.items
    (subst (IsSearch (map items c.args.links.now) c.args.start.items c.loop-node.seen.items) (none c.loop-node.left c.in_default.ensures.cases.0) c.loop-node.invariant)

pub offset_bounds-links-node : goal.offset_bounds-links-node
offset_bounds-links-node c =
    let node = is_node (map items c.args.links.now) c.args.start.items c.loop-node.seen.items c.loop-node.left.items c.pop.new.self.items c.in-Some.node c.in-Some.ensures.items c.loop-node.invariant in
    let within : c.in-Some.node < length c.args.links.now = omega (arith, node, c.loop-node.invariant.count, length-map c.args.links.now items) in
    search rules
