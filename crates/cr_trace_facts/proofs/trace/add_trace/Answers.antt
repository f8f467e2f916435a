use Rattle.cr_trace_facts.proofs.Told.{told_all}
use Rattle.cr_trace_facts.proofs.trace.add_trace.Goals as goal

pub returns : goal.returns
returns c = told_all c.args.seen.now c.args.new_macros.now c.args.body_params.now c.args.opaque.now _ _ _ _ _ c.in_ok-add_roles.ensures c.in_ok-add_new_macros.ensures c.in_ok-add_body_params.ensures c.in_ok-add_opaque.ensures
