use Rattle.cr_capture.proofs.KeptAsk.{keeps_ask}
use Rattle.cr_capture.proofs.law.renaming_keeps_an_ask.Goals as goal

pub returns : goal.returns
returns c = keeps_ask c.lookup_means.ensures
