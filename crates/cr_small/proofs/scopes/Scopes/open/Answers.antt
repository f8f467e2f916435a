use Rattle.std.proofs.Common.{refl}
use Rattle.cr_small.proofs.Maps.{opened_body}
use Rattle.cr_small.proofs.scopes.Scopes.open.Goals as goal

pub returns-clause-holds : goal.returns-clause-holds
returns-clause-holds c b h = opened_body c.args.self.now _ b h c.requires refl refl c.clear.ensures.empty
