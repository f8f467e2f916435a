use Rattle.cr_acting.proofs.Parts.{by_operands_alone}
use Rattle.cr_acting.specs.Binding.{source_by}
use Rattle.cr_binding.specs.Initialising.{index_designator}
use Rattle.cr_acting.proofs.binding.Binding.designate_element.Goals as goal

pub returns : goal.returns
returns c =
    by_operands_alone (source_by c.args.spot.words) c.args.self.now.types c.args.self.now.bound c.args.self.now.operands c.requires index_designator _ c.designate_element.ensures.grows c.designate_element.ensures.ok
