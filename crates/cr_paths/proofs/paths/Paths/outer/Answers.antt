use Rattle.cr_paths.proofs.Growing.{distinct, outer_before, outer_inner, outer_first, within_paths, outer_within}
use Rattle.cr_paths.proofs.paths.Paths.outer.Goals as goal

pub outer_in-requires : goal.outer_in-requires
outer_in-requires c = within_paths _ c.self.invariant _ (rw (← c.self.view_is) at c.requires)

pub returns-clause-before : goal.returns-clause-before
returns-clause-before c = outer_before _ c.self.invariant _ _ c.outer_in.ensures.later

pub returns-clause-within : goal.returns-clause-within
returns-clause-within c = rw (← c.self.view_is) (outer_within _ c.self.invariant _ _ (rw (← c.self.view_is) at c.requires) c.outer_in.ensures.first c.outer_in.ensures.later)

pub returns-clause-inner : goal.returns-clause-inner
returns-clause-inner c = rw (← c.self.view_is) (outer_inner _ c.self.invariant _ _ c.outer_in.ensures.later)

pub returns-clause-file_scope : goal.returns-clause-file_scope
returns-clause-file_scope c = rw (← c.self.view_is) (outer_first _ c.self.invariant _ _ c.outer_in.ensures.first)

pub returns-clause-distinct : goal.returns-clause-distinct
returns-clause-distinct c = rw (← c.self.view_is) (distinct _ c.self.invariant)
