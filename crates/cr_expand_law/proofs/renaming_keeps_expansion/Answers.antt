use Rattle.cr_expand_law.proofs.Law.{keeps_expansion}
use Rattle.cr_expand_law.proofs.renaming_keeps_expansion.Goals as goal

pub returns : goal.returns
returns c = keeps_expansion
