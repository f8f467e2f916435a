use Rattle.cr_bound.proofs.Tagging.{fill_does}
use Rattle.cr_bound.proofs.bound.Bound.fill.Goals as goal

pub returns-clause-ok : goal.returns-clause-ok
returns-clause-ok c = fill_does _ c.args.self.now _ c.filled_by-self.ensures.number
