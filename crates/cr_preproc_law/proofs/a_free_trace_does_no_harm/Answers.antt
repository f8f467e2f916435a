use Rattle.cr_preproc_law.proofs.Traces.{traces_are_fine}
use Rattle.cr_preproc_law.proofs.a_free_trace_does_no_harm.Goals as goal

pub returns : goal.returns
returns c = traces_are_fine
