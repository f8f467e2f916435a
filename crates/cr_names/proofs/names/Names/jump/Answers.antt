use Rattle.cr_names.proofs.Jumping.{jumped, jumps_nowhere}
use Rattle.cr_names.proofs.names.Names.jump.Goals as goal

pub returns-in_ok-push-in-Some-clause-ok : goal.returns-in_ok-push-in-Some-clause-ok
returns-in_ok-push-in-Some-clause-ok c = jumped _ _ c.args.name _ _ c.in-Some.ensures c.in_ok-push-in-Some.ensures.ok

pub returns-in-None-clause-ill : goal.returns-in-None-clause-ill
returns-in-None-clause-ill c = jumps_nowhere _ _ c.args.name c.in-None.ensures
