use Rattle.cr_acting.proofs.Parts.{aimed_at_last}
use Rattle.cr_acting.specs.Binding.{source_by}
use Rattle.cr_acting.proofs.binding.Binding.aim_at_last.Goals as goal

pub returns : goal.returns
returns c =
    aimed_at_last (source_by c.args.spot.words) c.args.self.now _ _ _ c.growths_follow.ensures c.requires c.in_ok-ty.ensures.same c.in_ok-ty.ensures.given c.in_ok-ty.ensures.meant c.aim.ensures.ok c.aim.ensures.grows
