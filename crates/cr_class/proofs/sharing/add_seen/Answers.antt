use Rattle.std.proofs.Common.{◌+◌, true, length, map, refl, sym, ap, ◌∙◌, subst, Bor}
use Rattle.std.specs.Prelude.{cond}
use Rattle.std.specs.Ordering.{is_eq}
use Rattle.std.specs.Option.{option_map}
use Rattle.std.specs.BTreeSet as tree
use Rattle.std.specs.BTreeSet.{BTreeSet}
use Rattle.std.proofs.lemmas.Option.{slice_get_read}
use Rattle.cr_base.specs.declared.key.Key.{Key}
use Rattle.cr_class.specs.RenameClass.{key_cmp}
use Rattle.cr_class.proofs.Sharings.{IsAdded, added_more, added_none, slice_get_map}
use Rattle.cr_class.proofs.sharing.add_seen.Goals as goal
use Rattle.cr_class.proofs.sharing.add_seen.Goals.{then-seen-i+in_ok-copy+in_ok-insert, else-seen-i}

pub loop-i-preserved : goal.loop-i-preserved
loop-i-preserved c =
    let keys = map (λ (k : Bor Key). k.now) c.args.keys.now in
    let before = tree.contains key_cmp c.args.known.now in
    let was = tree.contains key_cmp c.loop-i.known in
    let key = c.index-keys-i.result in
    let at = slice_get_map (λ (k : Bor Key). k.now) c.args.keys.now c.loop-i.i ∙ ap (option_map (λ (k : Bor Key). k.now)) (slice_get_read c.args.keys.now (length c.args.keys.now) c.loop-i.i key refl c.loop-i-test.true c.index-keys-i.is) in
    elim c.if-seen-i.branch [
      | then-seen-i+in_ok-copy+in_ok-insert w ↦
          subst (λ (v : BTreeSet Key). IsAdded keys c.args.seen.now (c.loop-i.i + 1) before (tree.contains key_cmp v)) (sym w.known-is)
          (added_more keys c.args.seen.now c.loop-i.i key.now at before was c.loop-i.invariant c.facts_are_ordered.ensures (tree.contains key_cmp w.insert.new.self)
          (λ q. w.in_ok-insert.ensures.updates.0 q ∙ ap (λ l. cond (is_eq (key_cmp l q)) true (was q)) w.in_ok-copy.ensures) w.if-seen-i.true)
      | else-seen-i w ↦
          subst (λ (v : BTreeSet Key). IsAdded keys c.args.seen.now (c.loop-i.i + 1) before (tree.contains key_cmp v)) (sym w.known-is)
          (added_none keys c.args.seen.now c.loop-i.i key.now at before was c.loop-i.invariant w.if-seen-i.false)
    ]
