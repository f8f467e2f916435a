use Rattle.std.proofs.Common.{sym, ap, subst, ◌∙◌, if◌then◌else◌}
use Rattle.cr_types.specs.Types.{Arith, Arr}
use Rattle.cr_ll.specs.Guards.{is_string}
use Rattle.cr_binding.specs.Expressions.{push}
use Rattle.cr_operands.specs.Operands.{Does}
use Rattle.cr_operands.proofs.Changing.{on_ok}
use Rattle.cr_operands.proofs.operands.Operands.push_value.Goals as goal

pub returns-then-is_string-clause-ok : goal.returns-then-is_string-clause-ok
returns-then-is_string-clause-ok c =
    on_ok c.push.result
    (λ does t source i h kind.
    subst (λ z. Does t c.args.self.now (push z) t c.push.new.self)
    (h.text.1 ∙ ap (λ b. if b then Arr Arith else Arith) (sym (ap is_string kind ∙ sym c.is_string.ensures ∙ c.if-is_string.true)))
    (does t h h.text.0))
    c.push.ensures.ok

pub returns-else-is_string-clause-ok : goal.returns-else-is_string-clause-ok
returns-else-is_string-clause-ok c =
    on_ok c.push-else-is_string.result
    (λ does t source i h kind.
    subst (λ z. Does t c.args.self.now (push z) t c.push-else-is_string.new.self)
    (h.arith.1 ∙ ap (λ b. if b then Arr Arith else Arith) (sym (ap is_string kind ∙ sym c.is_string.ensures ∙ c.if-is_string.false)))
    (does t h h.arith.0))
    c.push-else-is_string.ensures.ok
