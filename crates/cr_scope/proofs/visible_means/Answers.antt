use Rattle.cr_scope.proofs.Members.{all_seen}
use Rattle.cr_scope.proofs.visible_means.Goals as goal

pub returns : goal.returns
returns c = all_seen
