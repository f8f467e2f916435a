use Rattle.std.proofs.Common.{ap, ◌∙◌}
use Rattle.cr_binding.specs.Initialising.{InBraces, item_within}
use Rattle.cr_operands.specs.Operands.{target_of, with_operands, seen}
use Rattle.cr_operands.proofs.operands.Operands.target_after_list.Goals as goal

pub returns-clause-target : goal.returns-clause-target
returns-clause-target c = λ s.
    c.item.ensures.ok (with_operands c.args.types.now c.args.self.now s)
    ∙ ap (λ a. item_within (seen c.args.types.now c.args.records.now c.args.self.now s) InBraces (target_of c.args.types.now a)) c.copy-target.ensures
