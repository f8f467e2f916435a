use Rattle.std.proofs.Common.{sym, ◌∙◌}
use Rattle.cr_cond.proofs.Going.{goes_on, refuses}
use Rattle.cr_cond.proofs.reading.read.Goals as goal

pub returns-then-is_refused : goal.returns-then-is_refused
returns-then-is_refused c =
    sym (refuses c.args.names.now c.args.tokens.now c.loop-i.i _ c.loop-i.stack c.advance.new.stack c.loop-i.hand c.in_ok-hand.hand c.loop-i-test.true c.in_ok-hand.ensures (sym c.is_refused.ensures ∙ c.if-is_refused.true))
    ∙ c.loop-i.invariant

pub loop-i-preserved : goal.loop-i-preserved
loop-i-preserved c =
    sym (goes_on c.args.names.now c.args.tokens.now c.loop-i.i _ c.loop-i.stack c.advance.new.stack c.loop-i.hand c.in_ok-hand.hand c.loop-i-test.true c.in_ok-hand.ensures (sym c.is_refused.ensures ∙ c.if-is_refused.false))
    ∙ c.loop-i.invariant
