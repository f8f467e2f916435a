use Rattle.std.proofs.Common.{rules, ap, sym, ◌∙◌}
use Rattle.cr_cond.specs.Constants.{word}
use Rattle.cr_cond.proofs.Numbers.{stays_large, stops_at, at_end}
use Rattle.cr_cond.proofs.constant.number.Goals as goal

pub returns-then-not-is_digit_of : goal.returns-then-not-is_digit_of
returns-then-not-is_digit_of c = stops_at c.args.base c.loop-i.n c.args.text.now c.loop-i.i (search rules) c.loop-i.invariant.1 (search rules) ∙ ap word c.loop-i.invariant.0

pub returns-in-None : goal.returns-in-None
returns-in-None c = sym (sym (ap word c.loop-i.invariant.0) ∙ stays_large c.args.base c.loop-i.n c.args.text.now c.loop-i.i c.requires (search rules) (search rules) (sym c.with_digit.ensures ∙ c.in-None.is))

pub returns : goal.returns
returns c = at_end c.args.base c.loop-i.n c.args.text.now c.loop-i.i (search rules) c.loop-i.invariant.1 ∙ ap word c.loop-i.invariant.0
