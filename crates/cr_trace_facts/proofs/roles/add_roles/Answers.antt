use Rattle.cr_trace_facts.specs.Telling.{RoleTells}
use Rattle.cr_trace_facts.proofs.Gained.{gained_next, gained_all}
use Rattle.cr_trace_facts.proofs.roles.add_roles.Goals as goal

pub loop-one-preserved : goal.loop-one-preserved
loop-one-preserved c = gained_next RoleTells c.args.seen.now c.loop-one.one-index _ c.loop-one-test.true c.args.facts.now c.loop-one.facts c.add_role.new.facts c.loop-one.invariant c.in_ok-add_role.ensures

pub returns : goal.returns
returns c = gained_all RoleTells c.args.seen.now c.loop-one.one-index c.loop-one-test.false c.args.facts.now c.loop-one.facts c.loop-one.invariant
