use Rattle.std.proofs.Common.{ap, ◌∙◌}
use Rattle.cr_binding.specs.Initialising.{item_within}
use Rattle.cr_records.specs.Records.{with_records}
use Rattle.cr_operands.specs.Operands.{target_of, with_operands, seen}
use Rattle.cr_operands.proofs.operands.Operands.end_item.Goals as goal

pub returns-clause-ok : goal.returns-clause-ok
returns-clause-ok c = λ s.
    ap (λ z. seen c.args.types.now c.args.records.now z s) c.cut.ensures
    ∙ (λ j. record (with_records c.args.types.now c.args.records.now s) {
      values = c.below-rest.ensures.values c.args.types.now j;
      target = (c.item.ensures.ok (with_operands c.args.types.now c.args.self.now s)
          ∙ ap (λ k. item_within (seen c.args.types.now c.args.records.now c.args.self.now s) k (target_of c.args.types.now c.args.self.now.target)) (c.item-item.ensures.meant c.args.types.now s c.requires.held)) j;
    })
