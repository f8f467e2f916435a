use Rattle.cr_acting.proofs.Parts.{becomes_as, by_operands_over}
use Rattle.cr_acting.specs.Acting.{ending_item}
use Rattle.cr_acting.specs.Binding.{source_by, state_of}
use Rattle.cr_operands.specs.Operands.{item_ended}
use Rattle.std.proofs.Common.{ap}
use Rattle.cr_acting.proofs.binding.Binding.end_item.Goals as goal

pub returns : goal.returns
returns c =
    becomes_as (source_by c.args.spot.words) c.args.self.now _ (λ _. item_ended c.is_one_string-is_string.result) (ending_item c.args.spot.leaves) (ap (λ b. item_ended b (state_of c.args.self.now)) c.is_one_string-is_string.ensures)
    (by_operands_over (source_by c.args.spot.words) c.args.self.now.types c.args.self.now.bound c.args.self.now.operands c.requires (item_ended c.is_one_string-is_string.result) _ _ c.records.ensures c.end_item.ensures.grows c.end_item.ensures.ok)
