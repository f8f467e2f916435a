use Rattle.cr_acting.specs.Binding.{source_by}
use Rattle.cr_acting.specs.Acting.{passing}
use Rattle.cr_binder.proofs.Going.{changes, keeps_as, passes, passes_same}
use Rattle.cr_binder.proofs.binder.Binder.pass.Goals as goal

pub returns : goal.returns
returns c =
    let k = keeps_as (source_by c.args.words) _ _ _ (passes_same (source_by c.args.words) c.args.i c.args.self.now c.node.result c.node.ensures)
    (changes (source_by c.args.words) c.args.self.now.nest c.args.self.now.frames c.args.self.now.binding c.requires c.frames_stay.ensures (passing c.node.result c.args.i) _ c.in_ok-pass.ensures)
    in
    passes (source_by c.args.words) _ c.args.i _ _ c.pass-2.ensures k
