use Rattle.cr_world.proofs.Held.{put_in}
use Rattle.cr_world.proofs.mem_tree.put_file.Goals as goal

pub returns-clause-ok : goal.returns-clause-ok
returns-clause-ok c = put_in c.args.files.now c.insert.new.self c.args.path c.args.bytes c.in_ok-insert.ensures.updates
