use Rattle.cr_trace_facts.specs.Telling.{IsInBody}
use Rattle.cr_trace_facts.proofs.Gained.{gained_next, gained_all}
use Rattle.cr_trace_facts.proofs.places.add_body_params.Goals as goal

pub loop-place-preserved : goal.loop-place-preserved
loop-place-preserved c = gained_next IsInBody c.args.places.now c.loop-place.place-index _ c.loop-place-test.true c.args.facts.now c.loop-place.facts c.add_fact.new.facts c.loop-place.invariant c.in_ok-add_fact.ensures

pub returns : goal.returns
returns c = gained_all IsInBody c.args.places.now c.loop-place.place-index c.loop-place-test.false c.args.facts.now c.loop-place.facts c.loop-place.invariant
