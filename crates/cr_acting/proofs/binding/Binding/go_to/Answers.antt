use Rattle.cr_acting.proofs.Parts.{by_bound_alone}
use Rattle.cr_acting.specs.Binding.{source_by}
use Rattle.cr_bound.specs.Bound.{Any}
use Rattle.cr_bound.specs.Scoping.{jumping}
use Rattle.cr_acting.proofs.binding.Binding.go_to.Goals as goal

pub returns : goal.returns
returns c =
    by_bound_alone (source_by c.args.spot.words) c.args.self.now.types c.args.self.now.bound c.args.self.now.operands c.requires Any (λ t. jumping) _ c.operands_stay.ensures tt (c.in_ok-go_to.ensures.ok c.args.self.now.types) (c.in_ok-go_to.ensures.typed c.args.self.now.types c.requires.whole.typed)
