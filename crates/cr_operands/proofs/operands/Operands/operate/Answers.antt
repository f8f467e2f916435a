use Rattle.std.proofs.Common.{OnOk, sym, ap, subst, ◌∙◌}
use Rattle.cr_operands.specs.Operands.{Does, changing, operated_as}
use Rattle.cr_operands.proofs.Changing.{by_form}
use Rattle.cr_operands.proofs.operands.Operands.operate.Goals as goal

pub returns-clause-ok : goal.returns-clause-ok
returns-clause-ok c =
    subst (λ f. OnOk c.operate_as.result (Does c.args.types.now c.args.self.now (changing f) c.operate_as.new.types c.operate_as.new.self))
    (ap (λ m. operated_as m c.args.text.now) c.form_of.ensures ∙ sym (by_form c.args.node c.args.text.now)) c.operate_as.ensures.ok
