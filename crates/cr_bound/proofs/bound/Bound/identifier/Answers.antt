use Rattle.cr_bound.proofs.Lenses.{moves_typed}
use Rattle.cr_bound.proofs.Naming.{supplied_left, denoted_left, nothing_left}
use Rattle.cr_bound.proofs.bound.Bound.identifier.Goals as goal

pub returns-in_ok-use_built_in-in-Supplied-clause-ok : goal.returns-in_ok-use_built_in-in-Supplied-clause-ok
returns-in_ok-use_built_in-in-Supplied-clause-ok c = supplied_left c.args.self.now _ _ _ _ c.in-Supplied.ensures c.in_ok-use_built_in-in-Supplied.ensures.ok

pub returns-in_ok-look_up-in-Denotes-clause-ok : goal.returns-in_ok-look_up-in-Denotes-clause-ok
returns-in_ok-look_up-in-Denotes-clause-ok c = denoted_left c.args.self.now _ _ _ _ _ _ c.in-Denotes.ensures c.in_ok-look_up-in-Denotes.ensures.ok

pub returns-in-Nothing-clause-ill : goal.returns-in-Nothing-clause-ill
returns-in-Nothing-clause-ill c = nothing_left c.args.self.now _ _ _ c.in-Nothing.ensures

pub returns-in_ok-use_built_in-in-Supplied-clause-typed : goal.returns-in_ok-use_built_in-in-Supplied-clause-typed
returns-in_ok-use_built_in-in-Supplied-clause-typed c = moves_typed _ _ _ c.in_ok-use_built_in-in-Supplied.ensures.ok

pub returns-in_ok-look_up-in-Denotes-clause-typed : goal.returns-in_ok-look_up-in-Denotes-clause-typed
returns-in_ok-look_up-in-Denotes-clause-typed c = moves_typed _ _ _ c.in_ok-look_up-in-Denotes.ensures.ok
