use Rattle.cr_typing.specs.declared.expressions.Op.TheVariants as op
use Rattle.cr_acting.proofs.Parts.{by_operands}
use Rattle.cr_acting.specs.Binding.{source_by}
use Rattle.cr_binding.specs.Expressions.{postfix}
use Rattle.cr_operands.specs.Operands.{changing}
use Rattle.cr_acting.proofs.binding.Binding.offset_index.Goals as goal

pub returns : goal.returns
returns c =
    by_operands (source_by c.args.spot.words) c.args.self.now.types c.args.self.now.bound c.args.self.now.operands c.requires (changing (postfix op.Index)) _ _ c.stay.ensures c.in_ok-index_offset.ensures.over.records c.in_ok-index_offset.ensures.grows c.in_ok-index_offset.ensures.ok
