use Rattle.cr_preproc.proofs.OpenedFiles.{tells_next}
use Rattle.cr_preproc.proofs.open_file.OpenFile.coming.Goals as goal

pub returns : goal.returns
returns c names files o = tells_next names files c.args.self.now c.coming.result c.coming.ensures o
