use Rattle.cr_acting.proofs.Parts.{operand_specified}
use Rattle.cr_acting.specs.Binding.{source_by}
use Rattle.cr_binding.specs.State.{start}
use Rattle.cr_bound.specs.Kept.{with_bound}
use Rattle.cr_acting.proofs.binding.Binding.specify_operand.Goals as goal

pub returns : goal.returns
returns c =
    operand_specified (source_by c.args.spot.words) c.args.self.now.types c.args.self.now.bound c.args.self.now.operands c.requires _ _ _ (c.operand-ty.ensures c.args.self.now.types (with_bound c.args.self.now.types c.args.self.now.bound start) c.requires.whole.held) (c.specify.ensures.ok c.args.self.now.types c.requires.whole.typed (c.operand-ty.ensures c.args.self.now.types start c.requires.whole.held).0) (c.specify.ensures.typed c.args.self.now.types c.requires.whole.typed (c.operand-ty.ensures c.args.self.now.types start c.requires.whole.held).0) (c.drop_last.ensures.grows c.args.self.now.types c.requires.whole.held) (c.drop_last.ensures.ok c.args.self.now.types)
