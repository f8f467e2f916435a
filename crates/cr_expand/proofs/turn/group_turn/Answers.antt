use Rattle.std.proofs.Common.{inl, inr}
use Rattle.cr_expand.proofs.Turning.{call_at, call_missing, call_open, open_wanting}
use Rattle.cr_expand.proofs.Hungry.{missing_ends}
use Rattle.cr_expand.proofs.turn.group_turn.Goals as goal

pub returns-in-At-clause-means : goal.returns-in-At-clause-means
returns-in-At-clause-means c = λ sets file opens rest params more e g p q n.
    call_at c.args.names.now sets c.args.h c.args.m.now params file c.args.slots.now.items rest opens more c.args.count c.in-At.close c.args.m.now e g p q (c.in-At.ensures.closed sets)

pub returns-in-Missing-clause-means : goal.returns-in-Missing-clause-means
returns-in-Missing-clause-means c = λ sets file opens rest params more e g p q n.
    (c.args.h, call_missing c.args.names.now sets c.args.h c.args.m.now params c.args.slots.now.items rest opens more e g (c.in-Missing.ensures.closed sets))

pub returns-then-finished-clause-means : goal.returns-then-finished-clause-means
returns-then-finished-clause-means c = λ sets file opens rest params more e g p q n.
    (c.args.h, call_open c.args.names.now sets c.args.h c.args.m.now params c.args.slots.now.items rest opens more e g (n c.if-finished.true) (c.in-NotYet.ensures.closed sets))

pub returns-else-finished-clause-wanting : goal.returns-else-finished-clause-wanting
returns-else-finished-clause-wanting c = λ sets opens rest params e g.
    open_wanting c.args.names.now sets c.args.h c.args.m.now params c.args.finished c.args.slots.now.items rest opens e g c.if-finished.false (c.in-NotYet.ensures.closed sets)

pub returns-in-Missing-clause-wanting : goal.returns-in-Missing-clause-wanting
returns-in-Missing-clause-wanting c = λ sets opens rest params e g. inr (missing_ends c.args.names.now sets c.args.slots.now.items (c.in-Missing.ensures.closed sets))

pub returns-then-finished-clause-wanting : goal.returns-then-finished-clause-wanting
returns-then-finished-clause-wanting c = λ sets opens rest params e g. inl c.if-finished.true
