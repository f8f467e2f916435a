use Rattle.cr_examples.proofs.expander.expanded.Goals as goal

pub given-requires-clause-running : goal.given-requires-clause-running
given-requires-clause-running c = c.in_ok-e.ensures.running c.in_ok-macros.macros

pub given-requires-2-clause-running : goal.given-requires-2-clause-running
given-requires-2-clause-running c = c.finish.ensures.running c.machine_for.new.names c.in_ok-macros.macros (c.in_ok-e.ensures.running c.in_ok-macros.macros)
