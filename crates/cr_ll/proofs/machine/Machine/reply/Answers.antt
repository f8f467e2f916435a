use Rattle.std.proofs.Common.{sym, ◌∙◌, ap, subst}
use Rattle.cr_ll.specs.Running.{IsWaiting, GoesOn}
use Rattle.cr_ll.specs.declared.state.State.{State}
use Rattle.cr_ll.proofs.Asking.{waits_there, goes_on, goes_on_place}
use Rattle.cr_ll.proofs.machine.Machine.reply.Goals as goal

pub reply-requires : goal.reply-requires
reply-requires c = subst IsWaiting (sym c.self.view_is) (waits_there _ c.requires)

pub returns-clause-replies : goal.returns-clause-replies
returns-clause-replies c =
    let P : State → Type 0 = λ z. GoesOn z c.args.typedef_name c.reply.new.m in
    goes_on _ _ _ (subst P c.self.view_is c.reply.ensures)

pub returns-clause-idle : goal.returns-clause-idle
returns-clause-idle c = c.reply.ensures.3

pub returns-clause-placed : goal.returns-clause-placed
returns-clause-placed c = goes_on_place _ _ _ c.reply.ensures ∙ ap (λ (z : State). z.place) c.self.view_is
