use Rattle.std.proofs.Common.{◌-◌, length, arith, ap}
use Rattle.std.proofs.lemmas.Option.{get_or_from_slice_get}
use Rattle.cr_expand.proofs.Sets.{length_sets, node_here}
use Rattle.cr_expand.proofs.hide_sets.HideSets.made.Goals as goal

pub index-requires : goal.index-requires
index-requires c =
    let a = ap length c.self.view_is in
    let b = length_sets c.self.inside.nodes.keys in
    omega (arith, a, b, c.requires.known, c.requires.later)

pub returns : goal.returns
returns c =
    let a = ap length c.self.view_is in
    let b = length_sets c.self.inside.nodes.keys in
    let made = node_here c.args.self.now c.self.inside.nodes.keys c.args.set.0 c.index.result.now c.self.view_is c.self.invariant.0.earlier c.requires.later (omega (arith, a, b, c.requires.known)) (get_or_from_slice_get c.self.inside.nodes.keys (c.args.set.0 - 1) c.index.result.now c.index.result.now c.index.ensures) in
    record { made = made.0; earlier = made.1 }
