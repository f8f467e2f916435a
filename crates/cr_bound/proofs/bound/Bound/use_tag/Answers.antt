use Rattle.cr_bound.proofs.Tagging.{found_used, use_refused, use_typed}
use Rattle.cr_bound.proofs.bound.Bound.use_tag.Goals as goal

pub returns-then-not-repeats-clause-ill : goal.returns-then-not-repeats-clause-ill
returns-then-not-repeats-clause-ill c = use_refused c.args.self.now _ _ _ _ _ c.repeats.ensures c.if-not-repeats.true

pub returns-clause-ok : goal.returns-clause-ok
returns-clause-ok c = found_used c.args.self.now _ _ _ _ _ _ c.repeats.ensures c.if-not-repeats.false c.in_ok-look_up.ensures.ok

pub returns-clause-typed : goal.returns-clause-typed
returns-clause-typed c = use_typed c.args.self.now _ _ _ c.in_ok-look_up.ensures.ok
