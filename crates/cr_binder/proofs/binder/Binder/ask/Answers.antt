use Rattle.cr_acting.specs.Binding.{source_by}
use Rattle.cr_acting.specs.Acting.{asking}
use Rattle.cr_binder.proofs.Going.{changes}
use Rattle.cr_binder.proofs.binder.Binder.ask.Goals as goal

pub returns-clause-asked : goal.returns-clause-asked
returns-clause-asked c =
    changes (source_by c.args.words) c.args.self.now.nest c.args.self.now.frames c.args.self.now.binding c.requires c.frames_stay.ensures (asking c.args.token _) _ c.in_ok-answer.ensures.asked
