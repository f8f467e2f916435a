use Rattle.cr_expand_law.proofs.Uses.{keeps_uses}
use Rattle.cr_expand_law.proofs.renaming_keeps_each_use.Goals as goal

pub returns : goal.returns
returns c = keeps_uses
