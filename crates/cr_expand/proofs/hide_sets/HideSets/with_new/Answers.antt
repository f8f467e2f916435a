use Rattle.std.proofs.Common.{length, arith, sym, ap, subst}
use Rattle.cr_expand.specs.HideSets.{sets_of, Grows, AreBelow, AreNodes}
use Rattle.cr_expand.proofs.HidePaths.{path_kept}
use Rattle.cr_expand.proofs.Sets.{length_sets, nodes_keys, grows_keys, node_puts, below_keys}
use Rattle.cr_expand.proofs.hide_sets.HideSets.with_new.Goals as goal

grows : (c : goal.In_ok-place) → Grows (sets_of c.self.inside.nodes.keys) (sets_of c.put.new.nodes.keys)
grows c = grows_keys _ c.self.inside.nodes.keys c.put.new.nodes.keys (record { parent = c.args.set; name = c.args.name }) c.in_ok-place.ensures.ok

made : (c : goal.In_ok-place) → AreNodes c.put.new.nodes.keys
made c =
    let a = ap length c.self.view_is in
    let b = length_sets c.self.inside.nodes.keys in
    nodes_keys _ c.args.self.now c.self.inside.nodes.keys c.put.new.nodes.keys (record { parent = c.args.set; name = c.args.name }) c.self.view_is c.in_ok-place.ensures.ok c.self.invariant.0
    (omega (arith, a, b, c.requires.set)) c.requires.new

pub invariant_of-self-2 : goal.invariant_of-self-2
invariant_of-self-2 c = (
  made c,
  path_kept (sets_of c.self.inside.nodes.keys) (sets_of c.put.new.nodes.keys) c.self.inside.path.steps.entries (grows c) (omega (arith, length_sets c.self.inside.nodes.keys)) c.self.invariant.1,
)

pub returns-clause-puts : goal.returns-clause-puts
returns-clause-puts c =
    node_puts c.args.self.now c.self.inside.nodes.keys c.put.new.nodes.keys (record { parent = c.args.set; name = c.args.name }) c.in_ok-place.place c.self.view_is (grows c)
    (made c).earlier c.requires.set c.in_ok-place.ensures.place c.in_ok-place.ensures.within

pub returns-clause-below : goal.returns-clause-below
returns-clause-below c = λ bound h k.
    below_keys _ bound c.self.inside.nodes.keys c.put.new.nodes.keys (record { parent = c.args.set; name = c.args.name }) c.in_ok-place.ensures.ok h (subst (AreBelow bound) (sym c.self.view_is) k)
