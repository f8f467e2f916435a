use Rattle.cr_types.proofs.Meant.{Derived, derives_from, derived_keeps}
use Rattle.cr_types.proofs.Types.derive.Goals as goal
use Rattle.std.proofs.Common.{length}

all_derived : (c : goal.After-derive_in) → Derived c.self.inside.types.keys (length c.self.inside.records.items) c.args.base.0 c.args.parts.now c.derive_in.new.types.keys c.derive_in.result
all_derived c = derives_from _ _ _ _ c.in_ok-reserve.ensures.keys c.self.invariant (rw (← c.self.view_is) at c.requires) _ _ _ c.derive_in.ensures

pub invariant_of-self-2 : goal.invariant_of-self-2
invariant_of-self-2 c = (all_derived c).table

pub returns-clause-given : goal.returns-clause-given
returns-clause-given c = (all_derived c).within

pub returns-clause-meant : goal.returns-clause-meant
returns-clause-meant c = rw (← c.self.view_is) (all_derived c).meaning

pub returns-clause-keeps : goal.returns-clause-keeps
returns-clause-keeps c = rw (← c.self.view_is) (derived_keeps _ _ _ _ _ _ (all_derived c) c.self.inside.records.items)
