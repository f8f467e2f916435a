use Rattle.std.proofs.Common.{arith}
use Rattle.cr_types.proofs.Meant.{more_records, record_keeps}
use Rattle.cr_types.proofs.Types.new_rec.Goals as goal

pub invariant_of-self-2 : goal.invariant_of-self-2
invariant_of-self-2 c = more_records _ _ _ (omega (arith, c.in_ok-push.ensures.len)) c.self.invariant

pub returns-clause-keeps : goal.returns-clause-keeps
returns-clause-keeps c = rw (← c.self.view_is) (record_keeps _ _ _ _ c.in_ok-push.ensures.items)
