use Rattle.std.proofs.Common.{take}
use Rattle.cr_groups.specs.Adding.{Adds}
use Rattle.cr_trace_facts.specs.Telling.{Among, IsInBody}
use Rattle.cr_trace_facts.proofs.places.add_body_params.Given as goal

abbrev pub invariant-loop-place : goal.invariant-loop-place
invariant-loop-place l = Adds l.fn.facts l.facts (Among IsInBody (take l.place-index l.places))
