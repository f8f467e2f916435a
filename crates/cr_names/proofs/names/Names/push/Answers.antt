use Rattle.std.proofs.Common.{length, subst, sym}
use Rattle.cr_names.specs.Kept.{KnownNames, IsPlaced}
use Rattle.cr_names.proofs.Doing.{used_keeps}
use Rattle.cr_names.proofs.names.Names.push.Goals as goal

pub invariant_of-self-2 : goal.invariant_of-self-2
invariant_of-self-2 c =
    used_keeps _ c.self.invariant c.args.row _ c.in_ok-push.ensures.items
    (subst (λ (x : KnownNames). IsPlaced (length x.declared.paths) c.args.row) (sym c.self.view_is) c.requires)
