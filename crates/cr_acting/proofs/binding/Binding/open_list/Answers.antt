use Rattle.cr_acting.proofs.Parts.{by_operands_over}
use Rattle.cr_acting.specs.Binding.{source_by}
use Rattle.cr_binding.specs.Initialising.{list_opened}
use Rattle.cr_acting.proofs.binding.Binding.open_list.Goals as goal

pub returns : goal.returns
returns c =
    by_operands_over (source_by c.args.spot.words) c.args.self.now.types c.args.self.now.bound c.args.self.now.operands c.requires list_opened _ _ c.records.ensures c.open_list.ensures.grows c.open_list.ensures.ok
