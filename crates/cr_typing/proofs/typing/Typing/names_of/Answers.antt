use Rattle.cr_typing.proofs.typing.Typing.names_of.Goals as goal

pub returns-in_err-names-in-Some-clause-members : goal.returns-in_err-names-in-Some-clause-members
returns-in_err-names-in-Some-clause-members c = rw (← c.self.view_is) (c.self.invariant c.args.r.0).named

pub returns-in_ok-names-in-Some-clause-members : goal.returns-in_ok-names-in-Some-clause-members
returns-in_ok-names-in-Some-clause-members c = rw (← c.self.view_is) (c.self.invariant c.args.r.0).named

pub returns-in-None-clause-members : goal.returns-in-None-clause-members
returns-in-None-clause-members c = rw (← c.self.view_is) (c.self.invariant c.args.r.0).named
