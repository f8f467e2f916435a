use Rattle.cr_acting.specs.Binding.{source_by}
use Rattle.cr_binder.proofs.Going.{acts}
use Rattle.cr_binder.proofs.binder.Binder.act.Goals as goal

pub returns : goal.returns
returns c =
    acts (source_by c.args.words) _ c.args.action _ _ c.in_ok-act.ensures.ok c.in_ok-bind.ensures
