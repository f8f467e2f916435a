use Rattle.cr_capture.proofs.KeptTag.{keeps_new_tag}
use Rattle.cr_capture.proofs.law.renaming_keeps_a_new_tag.Goals as goal

pub returns : goal.returns
returns c = keeps_new_tag c.lookup_means.ensures
