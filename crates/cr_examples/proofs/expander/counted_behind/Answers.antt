use Rattle.cr_examples.proofs.expander.counted_behind.Goals as goal

pub counted-requires-clause-running : goal.counted-requires-clause-running
counted-requires-clause-running c = c.finish.ensures.running c.machine_for.new.names c.in_ok-macros.macros (c.in_ok-e.ensures.running c.in_ok-macros.macros)
