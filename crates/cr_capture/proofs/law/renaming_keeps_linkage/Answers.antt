use Rattle.cr_capture.proofs.KeptLinkage.{keeps_linkage}
use Rattle.cr_capture.proofs.law.renaming_keeps_linkage.Goals as goal

pub returns : goal.returns
returns c = keeps_linkage c.lookup_means.ensures
