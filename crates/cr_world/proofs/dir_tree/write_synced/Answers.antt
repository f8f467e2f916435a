use Rattle.cr_world.proofs.Drafted.{appends_stay}
use Rattle.cr_world.proofs.dir_tree.write_synced.Goals as goal

pub returns-in-Done : goal.returns-in-Done
returns-in-Done g c = λ files told.
    let w = c.in-Done.ensures.files files told in
    let s = c.sync.ensures.files w.0 w.1 in
    (s.0, s.1, appends_stay files w.0 s.0 (g.D.Disk.place c.args.draft.now) c.args.bytes.now c.sync.result w.2 s.2)
