use Rattle.cr_capture.proofs.KeptLookup.{keeps_lookup, keeps_answer}
use Rattle.cr_capture.proofs.law.renaming_keeps_lookup.Goals as goal

pub returns : goal.returns
returns c = record { denotes = keeps_lookup c.lookup_means.ensures; answers = keeps_answer c.lookup_means.ensures }
