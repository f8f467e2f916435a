use Rattle.std.proofs.Common.{rules, sym}
use Rattle.cr_types.proofs.Meant.{at_is, parts_within, one_number}
use Rattle.cr_types.proofs.Types.get.Goals as goal

pub returns-clause-parts : goal.returns-clause-parts
returns-clause-parts c = rw (← c.self.view_is) (parts_within _ _ c.self.invariant c.args.n.0 _ (search rules))

pub returns-clause-meant : goal.returns-clause-meant
returns-clause-meant c = rw (← c.self.view_is) (sym (at_is _ _ c.self.invariant c.args.n.0 _ (search rules)))

pub returns-clause-one : goal.returns-clause-one
returns-clause-one c = rw (← c.self.view_is) (λ m h e. one_number _ _ c.self.invariant m c.args.n h (search rules) e)
