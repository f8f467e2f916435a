use Rattle.cr_examples.proofs.expander.step_of.Goals as goal

pub returns-clause-macros : goal.returns-clause-macros
returns-clause-macros c = c.defined_macros_are_known.ensures.later c.args.names.now c.step.new.names c.args.macros.now (c.in_ok-step.ensures.step c.requires.fault).1 c.requires.macros
