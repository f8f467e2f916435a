use Rattle.cr_expand.proofs.Defined.{keeps_macros}
use Rattle.cr_expand.proofs.good_macros.defined_macros_are_known.Goals as goal

pub returns : goal.returns
returns c = keeps_macros
