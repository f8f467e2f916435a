use Rattle.std.proofs.Common.{take}
use Rattle.cr_groups.specs.Adding.{Adds}
use Rattle.cr_trace_facts.specs.Telling.{Among, IsOpaque}
use Rattle.cr_trace_facts.proofs.places.add_opaque.Given as goal

abbrev pub invariant-loop-place : goal.invariant-loop-place
invariant-loop-place l = Adds l.fn.facts l.facts (Among IsOpaque (take l.place-index l.places))
