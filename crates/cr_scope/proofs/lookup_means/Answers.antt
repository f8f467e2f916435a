use Rattle.cr_scope.proofs.Looked as looked
use Rattle.cr_scope.proofs.lookup_means.Goals as goal

pub returns : goal.returns
returns c = looked.lookup_means
