use Rattle.std.proofs.Common.{◌≡◌, ◌++◌, [], sym, ap, subst, ◌∙◌}
use Rattle.cr_typing.specs.Kept.{AreNew}
use Rattle.cr_typing.proofs.Names.{are_new_append}
use Rattle.cr_typing.proofs.record_members.RecordMembers.add.Goals as goal

pub invariant_of-self-2 : goal.invariant_of-self-2
invariant_of-self-2 c =
    let e : c.put_names.new.names.entries ≡ c.self.inside.named.entries ++ c.args.more.now = c.put_names.ensures ∙ ap (λ x. x ++ c.args.more.now) c.in_ok-reserve.ensures.entries in
    subst (AreNew []) (sym e) (are_new_append [] c.self.inside.named.entries c.args.more.now c.self.invariant (rw (← c.self.view_is) at c.requires))
