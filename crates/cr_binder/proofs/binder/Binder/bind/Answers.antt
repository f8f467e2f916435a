use Rattle.cr_acting.specs.Binding.{source_by}
use Rattle.cr_binder.proofs.Going.{changes, keeps_as, acts_same}
use Rattle.cr_binder.proofs.binder.Binder.bind.Goals as goal

pub returns : goal.returns
returns c =
    keeps_as (source_by c.args.words) _ _ _ (acts_same (source_by c.args.words) c.args.action c.args.self.now _ _ _ _ c.node.ensures c.first.ensures c.closed_parts.ensures c.closed_leaves.ensures)
    (changes (source_by c.args.words) c.args.self.now.nest c.args.self.now.frames c.args.self.now.binding c.requires c.frames_stay.ensures _ _ c.in_ok-act.ensures)
