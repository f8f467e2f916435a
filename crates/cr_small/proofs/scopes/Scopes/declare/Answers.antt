use Rattle.cr_small.proofs.scopes.Scopes.declare.Goals as goal

pub returns-then-self-clause-declared : goal.returns-then-self-clause-declared
returns-then-self-clause-declared c = c.declare_in_body.ensures.declared c.args.word
