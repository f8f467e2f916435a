use Rattle.std.proofs.Common.{◌∙◌}
use Rattle.cr_preproc.proofs.Headers.{ends, goes_on}
use Rattle.cr_preproc.proofs.header.put_to_greater.Goals as goal

pub returns-then-branch : goal.returns-then-branch
returns-then-branch c =
    ends c.args.names.now c.args.tokens.now c.loop-i.i _ c.loop-i.name.items c.put_token.new.name.items c.in_ok-put_token.field-0 c.loop-i-test.true c.in_ok-put_token.ensures.test c.in_ok-put_token.ensures.put c.if-branch.true
    ∙ c.loop-i.invariant

pub loop-i-preserved : goal.loop-i-preserved
loop-i-preserved c =
    goes_on c.args.names.now c.args.tokens.now c.loop-i.i _ c.loop-i.name.items c.put_token.new.name.items c.in_ok-put_token.field-0 c.loop-i-test.true c.in_ok-put_token.ensures.test c.in_ok-put_token.ensures.put c.if-branch.false
    ∙ c.loop-i.invariant
