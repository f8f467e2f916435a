use Rattle.cr_declared.proofs.declared.Declared.rows.Goals as goal

pub returns-clause-formed : goal.returns-clause-formed
returns-clause-formed c = rw (← c.self.view_is) c.self.invariant.found.formed
