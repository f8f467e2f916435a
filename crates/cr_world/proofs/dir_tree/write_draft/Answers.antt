use Rattle.std.specs.Prelude.{List, ℕ, ◌≡◌}
use Rattle.std.proofs.Common.{subst}
use Rattle.cr_world.specs.Disks.{Appends}
use Rattle.cr_world.proofs.Drafted.{drafts_of}
use Rattle.cr_world.proofs.dir_tree.write_draft.Goals as goal

pub returns-in-Done : goal.returns-in-Done
returns-in-Done g c = λ files told.
    let t = c.in-Done.ensures.files files told in
    let w = c.write_synced.ensures t.0 t.1 in
    (w.0, w.1, λ is. drafts_of files t.0 w.0 (g.D.Disk.place c.args.draft) c.args.bytes.now c.write_synced.result t.2 (subst (λ path. Appends c.write_synced.result path c.args.bytes.now t.0 w.0) c.in-Done.ensures.place w.2) is)
