use Rattle.std.proofs.Common.{◌+◌, ℕ, Vec, Global, length, map, refl, sym, ap, ◌∙◌, subst, arith, Bor}
use Rattle.std.specs.Option.{option_map}
use Rattle.std.specs.BTreeSet as tree
use Rattle.std.proofs.lemmas.List.{length-map}
use Rattle.std.proofs.lemmas.Option.{slice_get_read, slice_get_within}
use Rattle.cr_base.specs.declared.key.Key.{Key}
use Rattle.cr_class.specs.RenameClass.{key_cmp}
use Rattle.cr_class.proofs.Sharings.{AreNodes, node_more, node_none, slice_get_map}
use Rattle.cr_class.proofs.sharing.nodes_of.Goals as goal
use Rattle.cr_class.proofs.sharing.nodes_of.Goals.{then-contains+in_ok-push, else-contains}

pub loop-i-preserved : goal.loop-i-preserved
loop-i-preserved c =
    let keys = map (λ (k : Bor Key). k.now) c.args.keys.now in
    let known = tree.contains key_cmp c.args.known.now in
    let key = c.index-keys-i.result in
    let at = slice_get_map (λ (k : Bor Key). k.now) c.args.keys.now c.loop-i.i ∙ ap (option_map (λ (k : Bor Key). k.now)) (slice_get_read c.args.keys.now (length c.args.keys.now) c.loop-i.i key refl c.loop-i-test.true c.index-keys-i.is) in
    elim c.if-contains.branch [
      | then-contains+in_ok-push w ↦
          subst (λ (v : Vec ℕ Global). AreNodes keys known (c.loop-i.i + 1) v.items) (sym w.nodes-is)
          (subst (AreNodes keys known (c.loop-i.i + 1)) (sym w.in_ok-push.ensures.items) (node_more keys known c.loop-i.i key.now at c.loop-i.nodes.items c.loop-i.invariant (sym c.contains.ensures ∙ w.if-contains.true)))
      | else-contains w ↦
          subst (λ (v : Vec ℕ Global). AreNodes keys known (c.loop-i.i + 1) v.items) (sym w.nodes-is)
          (node_none keys known c.loop-i.i key.now at c.loop-i.nodes.items c.loop-i.invariant (sym c.contains.ensures ∙ w.if-contains.false))
    ]

pub returns : goal.returns
returns c i = (
  λ has. c.loop-i.invariant.only i has,
  λ h. c.loop-i.invariant.all i h.0 (omega (arith, slice_get_within (map (λ (k : Bor Key). k.now) c.args.keys.now) i h.0 h.1, length-map c.args.keys.now (λ (k : Bor Key). k.now), c.loop-i-test.false)) h.1 h.2,
)
