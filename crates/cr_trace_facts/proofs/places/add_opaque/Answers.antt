use Rattle.cr_trace_facts.specs.Telling.{IsOpaque}
use Rattle.cr_trace_facts.proofs.Gained.{gained_next, gained_all}
use Rattle.cr_trace_facts.proofs.places.add_opaque.Goals as goal

pub loop-place-preserved : goal.loop-place-preserved
loop-place-preserved c = gained_next IsOpaque c.args.places.now c.loop-place.place-index _ c.loop-place-test.true c.args.facts.now c.loop-place.facts c.add_fact.new.facts c.loop-place.invariant c.in_ok-add_fact.ensures

pub returns : goal.returns
returns c = gained_all IsOpaque c.args.places.now c.loop-place.place-index c.loop-place-test.false c.args.facts.now c.loop-place.facts c.loop-place.invariant
