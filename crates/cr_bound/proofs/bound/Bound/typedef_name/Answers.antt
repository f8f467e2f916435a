use Rattle.cr_bound.proofs.Typenames.{name_does, name_typed, name_missing}
use Rattle.cr_bound.proofs.bound.Bound.typedef_name.Goals as goal

pub returns-in_ok-look_up-in-Some-clause-ok : goal.returns-in_ok-look_up-in-Some-clause-ok
returns-in_ok-look_up-in-Some-clause-ok c =
    name_does c.args.self.now _ _ _ c.meaning-denoted.ensures c.in-Some.found c.in-Some.ensures.found c.in-Some.ensures.given _ c.in_ok-look_up-in-Some.ensures.ok _ c.specify.ensures.ok

pub returns-in_ok-look_up-in-Some-clause-typed : goal.returns-in_ok-look_up-in-Some-clause-typed
returns-in_ok-look_up-in-Some-clause-typed c =
    name_typed c.args.self.now _ _ _ c.meaning-denoted.ensures c.in-Some.found c.in-Some.ensures.found c.in-Some.ensures.given _ c.in_ok-look_up-in-Some.ensures.ok _ c.specify.ensures.typed

pub returns-in-None-clause-ill : goal.returns-in-None-clause-ill
returns-in-None-clause-ill c = name_missing c.args.self.now _ _ _ c.meaning-denoted.ensures c.in-None.ensures.found
