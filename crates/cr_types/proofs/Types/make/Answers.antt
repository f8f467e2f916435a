use Rattle.cr_types.proofs.Meant.{put_table, put_meant, put_numbers, put_keeps}
use Rattle.cr_types.proofs.Types.make.Goals as goal

pub invariant_of-self-2 : goal.invariant_of-self-2
invariant_of-self-2 c =
    put_table _ _ c.args.ty _ c.self.invariant (rw (← c.self.view_is) at c.requires) c.in_ok-n.ensures.ok

pub returns-clause-number : goal.returns-clause-number
returns-clause-number c =
    put_numbers _ _ c.args.ty _ c.self.invariant (rw (← c.self.view_is) at c.requires) c.in_ok-n.ensures.ok _ c.in_ok-n.ensures.number

pub returns-clause-meant : goal.returns-clause-meant
returns-clause-meant c =
    rw (← c.self.view_is)
    (put_meant _ _ c.args.ty _ c.self.invariant (rw (← c.self.view_is) at c.requires) c.in_ok-n.ensures.ok _ c.in_ok-n.ensures.number)

pub returns-clause-keeps : goal.returns-clause-keeps
returns-clause-keeps c =
    rw (← c.self.view_is)
    (put_keeps _ _ c.args.ty _ c.self.invariant (rw (← c.self.view_is) at c.requires) c.in_ok-n.ensures.ok _)
