use Rattle.std.proofs.Common.{ℕ, map, get_or, refl, ◌∙◌, arith, Vec, Global}
use Rattle.std.proofs.lemmas.List.{length-map}
use Rattle.std.proofs.lemmas.List.Elements.{Contains-get_or}
use Rattle.cr_class.proofs.Graphs.{more_links, grown_length}
use Rattle.cr_class.proofs.graph.link.Goals as goal

pub add_link-requires-in-loop-i : goal.add_link-requires-in-loop-i
add_link-requires-in-loop-i c =
    let items : Vec ℕ Global → _ = λ v. v.items in
    let leads = c.requires.below (get_or c.args.leaders.now c.loop-i.i 0) (Contains-get_or c.args.leaders.now c.loop-i.i 0 c.loop-i-test.true) in
    let count = grown_length items c.loop-i.links.items c.add_link.new.links.items c.loop-i.i (get_or c.args.leaders.now c.loop-i.i 0) c.in_ok-add_link.ensures in
    omega (arith, leads, count, c.loop-i.invariant.0, c.requires.count)

pub loop-i-preserved : goal.loop-i-preserved
loop-i-preserved c =
    let items : Vec ℕ Global → _ = λ v. v.items in
    let leader = get_or c.args.leaders.now c.loop-i.i 0 in
    let zero = c.loop-i.links.items in
    let one = c.add_link.new.links.items in
    let two = c.add_link-in-loop-i.new.links.items in
    let first = grown_length items zero one c.loop-i.i leader c.in_ok-add_link.ensures in
    let second = grown_length items one two leader c.loop-i.i c.in_ok-add_link-2.ensures in
    let leads = c.requires.below leader (Contains-get_or c.args.leaders.now c.loop-i.i 0 c.loop-i-test.true) in
    let size = length-map zero items in (
      second ∙ first ∙ c.loop-i.invariant.0,
      more_links (map items c.args.links.now.items) (map items zero) (map items one) (map items two) c.args.leaders.now c.loop-i.i leader
          (omega (arith, size, c.loop-i.invariant.0, c.requires.count, c.loop-i-test.true)) (omega (arith, size, leads, c.loop-i.invariant.0, c.requires.count)) refl
          c.in_ok-add_link.ensures c.in_ok-add_link-2.ensures c.loop-i.invariant.1,
    )
