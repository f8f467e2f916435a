use Rattle.cr_acting.proofs.Parts.{type_pushed}
use Rattle.cr_acting.specs.Binding.{source_by}
use Rattle.cr_acting.proofs.binding.Binding.push_type.Goals as goal

pub returns : goal.returns
returns c =
    type_pushed (source_by c.args.spot.words) c.args.self.now.types c.args.self.now.bound c.args.self.now.operands c.requires c.args.spot.parts.now _ _ _ c.operands_stay.ensures c.growths_follow.ensures c.in_ok-ty.ensures.grows c.in_ok-ty.ensures.grows.keeps c.in_ok-ty.ensures.meant (λ h. c.in_ok-push.ensures.grows _ h c.in_ok-ty.ensures.given) (λ h. c.in_ok-push.ensures.ok _ h c.in_ok-ty.ensures.given)
