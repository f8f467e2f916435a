use Rattle.cr_acting.proofs.Parts.{becomes_as, by_bound}
use Rattle.cr_acting.specs.Acting.{untagged_next}
use Rattle.cr_acting.specs.Binding.{source_by, state_of}
use Rattle.cr_binding.specs.Tags.{untagged}
use Rattle.cr_bound.specs.Bound.{Any}
use Rattle.cr_bound.specs.Tags.{untagged_at}
use Rattle.std.proofs.Common.{ap}
use Rattle.cr_acting.proofs.binding.Binding.untagged.Goals as goal

pub returns : goal.returns
returns c =
    becomes_as (source_by c.args.spot.words) c.args.self.now _ (λ _. untagged_at c.in_ok-brace.brace) untagged_next (ap (λ i. untagged i (state_of c.args.self.now)) c.in_ok-brace.ensures)
    (by_bound (source_by c.args.spot.words) c.args.self.now.types c.args.self.now.bound c.args.self.now.operands c.requires Any (λ _. untagged_at _) _ _ c.operands_stay.ensures tt c.in_ok-untagged.ensures.ok c.in_ok-untagged.ensures.keeps c.in_ok-untagged.ensures.typed)
