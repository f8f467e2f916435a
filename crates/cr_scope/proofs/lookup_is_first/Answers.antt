use Rattle.cr_scope.proofs.Looked.{lookup_first}
use Rattle.cr_scope.proofs.lookup_is_first.Goals as goal

pub returns : goal.returns
returns c = lookup_first
