use Rattle.std.proofs.Common.{take}
use Rattle.cr_groups.specs.Adding.{Adds}
use Rattle.cr_trace_facts.specs.Telling.{Among, RoleTells}
use Rattle.cr_trace_facts.proofs.roles.add_roles.Given as goal

abbrev pub invariant-loop-one : goal.invariant-loop-one
invariant-loop-one l = Adds l.fn.facts l.facts (Among RoleTells (take l.one-index l.seen))
