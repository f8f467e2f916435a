use Rattle.std.proofs.Common.{◌≡◌, ◌++◌}
use Rattle.cr_preproc.proofs.OpenedFiles.{text_open}
use Rattle.cr_preproc.proofs.open_file.OpenFile.put_text.Goals as goal

pub returns-in_ok-extend_from_slice-clause-open : goal.returns-in_ok-extend_from_slice-clause-open
returns-in_ok-extend_from_slice-clause-open c files o =
    let items : c.extend_from_slice.new.self.items ≡ c.args.self.now.run.items ++ c.args.self.now.line.items = cc (c.in_ok-extend_from_slice.ensures.items, c.deref.ensures.value) in
    text_open c.args.names.now files c.args.self.now (record c.args.self.now { run = c.extend_from_slice.new.self }) items o
