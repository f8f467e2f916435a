use Rattle.cr_acting.proofs.Parts.{atomic_same, does_as}
use Rattle.cr_acting.specs.Acting.{specifying_by, specifying_if, specifying_operand}
use Rattle.cr_acting.specs.Binding.{source_by, state_of}
use Rattle.std.proofs.Common.{ap, sym, ◌∙◌}
use Rattle.cr_acting.proofs.binding.Binding.specify_by.Goals as goal

pub returns-then-is_atomic : goal.returns-then-is_atomic
returns-then-is_atomic c =
    does_as (source_by c.args.spot.words) c.args.self.now _ (λ _. specifying_operand) (specifying_by c.args.word) _ (atomic_same (state_of c.args.self.now) ∙ ap (λ b. specifying_if b (state_of c.args.self.now)) (sym c.if-is_atomic.true) ∙ sym (c.is_atomic.ensures (state_of c.args.self.now))) c.specify_operand.ensures
