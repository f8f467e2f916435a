use Rattle.std.proofs.Common.{◌≡◌, Some, ap, ◌∙◌, ◌++◌, arith, slice_get, length, refl, suc, subst, take, ◌+◌}
use Rattle.std.proofs.lemmas.Option.{slice_get_read}
use Rattle.cr_world.specs.Outside.{Replaces}
use Rattle.cr_world.specs.declared.outside.DoneEnd.TheVariants as done
use Rattle.cr_edit.specs.Writing.{written, paths_of}
use Rattle.cr_edit.proofs.Writes.{replaced_more, replaced_stop, asked_more}
use Rattle.cr_edit.proofs.write.replace_all.Goals as goal

pub loop-write-preserved : goal.loop-write-preserved
loop-write-preserved g c =
    let at : slice_get c.args.writes.now c.loop-write.write-index ≡ Some c.write-item.result = slice_get_read c.args.writes.now (length c.args.writes.now) c.loop-write.write-index c.write-item.result refl (omega arith) c.write-item.is in
    let e : suc c.loop-write.write-index ≡ c.loop-write.write-index + 1 = omega arith in (
      λ files told.
          let before = c.loop-write.invariant.0 files told in
          let after = c.in-Done.ensures.files before.0 before.1 in
          (after.0, after.1, λ path. replaced_more c.args.writes.now c.loop-write.write-index c.write-item.result files before.0 after.0 at before.2 (subst (λ bytes. Replaces done.Done c.write-item.result.edit.path bytes before.0 after.0) c.items.ensures after.2) path ∙ ap (λ n. written (take n c.args.writes.now) files path) e),
      λ path. omega (arith, c.loop-write.invariant.1 path, c.replace.ensures.counts path),
      λ path. c.replace.ensures.reads path ∙ c.loop-write.invariant.2 path,
      asked_more c.args.writes.now c.loop-write.write-index c.write-item.result _ _ _ at c.loop-write.invariant.3 c.replace.ensures.asked ∙ ap (λ n. g.T.Tree.replacings c.args.tree.now ++ take n (paths_of c.args.writes.now)) e,
      c.replace.ensures.readings ∙ c.loop-write.invariant.4,
    )

pub returns-in-Failed-clause-stopped : goal.returns-in-Failed-clause-stopped
returns-in-Failed-clause-stopped g c =
    let at : slice_get c.args.writes.now c.loop-write.write-index ≡ Some c.write-item.result = slice_get_read c.args.writes.now (length c.args.writes.now) c.loop-write.write-index c.write-item.result refl (omega arith) c.write-item.is in (
      c.loop-write.write-index,
      at,
      λ files told.
          let before = c.loop-write.invariant.0 files told in
          let after = c.in-Failed.ensures.files before.0 before.1 in
          (after.0, after.1, replaced_stop c.args.writes.now c.loop-write.write-index c.write-item.result files before.0 after.0 before.2 (subst (λ bytes. Replaces done.Failed c.write-item.result.edit.path bytes before.0 after.0) c.items.ensures after.2)),
    )

pub returns-in-Failed-clause-asked : goal.returns-in-Failed-clause-asked
returns-in-Failed-clause-asked g c =
    let at : slice_get c.args.writes.now c.loop-write.write-index ≡ Some c.write-item.result = slice_get_read c.args.writes.now (length c.args.writes.now) c.loop-write.write-index c.write-item.result refl (omega arith) c.write-item.is in
    (suc c.loop-write.write-index, asked_more c.args.writes.now c.loop-write.write-index c.write-item.result _ _ _ at c.loop-write.invariant.3 c.in-Failed.ensures.asked)

pub returns-clause-asked : goal.returns-clause-asked
returns-clause-asked g c = (c.loop-write.write-index, c.loop-write.invariant.3)
