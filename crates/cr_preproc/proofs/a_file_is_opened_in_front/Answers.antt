use Rattle.cr_preproc.proofs.Frames.{opens_in_front}
use Rattle.cr_preproc.proofs.a_file_is_opened_in_front.Goals as goal

pub returns : goal.returns
returns c = opens_in_front
