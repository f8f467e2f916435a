use Rattle.cr_expand_law.proofs.Origins.{keeps_origins, uses_keep_origins}
use Rattle.cr_expand_law.proofs.expansion_keeps_origins.Goals as goal

pub returns-clause-lists : goal.returns-clause-lists
returns-clause-lists c = keeps_origins

pub returns-clause-uses : goal.returns-clause-uses
returns-clause-uses c = uses_keep_origins
