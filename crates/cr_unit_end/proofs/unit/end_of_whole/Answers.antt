use Rattle.std.proofs.Common.{arith}
use Rattle.cr_unit_end.proofs.Ending.{made_of, read_of, ends_so}
use Rattle.cr_unit_end.proofs.unit.end_of_whole.Goals as goal

pub end_of_tokens-requires-clause-short : goal.end_of_tokens-requires-clause-short
end_of_tokens-requires-clause-short c =
    let r = read_of c.args.whole.names c.args.whole.tokens.items c.deref.result.now c.deref.ensures.value c.args.end c.args.old.now c.args.new.now c.in-Tokens.made _ c.in-Tokens.is c.in_ok-made.ensures c.requires.named c.requires.within in
    let s = r.short in
    omega (arith, s)

pub end_of_tokens-requires-clause-texts : goal.end_of_tokens-requires-clause-texts
end_of_tokens-requires-clause-texts c =
    (read_of c.args.whole.names c.args.whole.tokens.items c.deref.result.now c.deref.ensures.value c.args.end c.args.old.now c.args.new.now c.in-Tokens.made _ c.in-Tokens.is c.in_ok-made.ensures c.requires.named c.requires.within).have

pub returns-in-Tokens : goal.returns-in-Tokens
returns-in-Tokens c = λ files is.
    ends_so files c.args.unit.now c.args.old.now c.args.new.now c.args.whole c.args.end is c.in-Tokens.made
    (made_of c.args.whole.names c.args.whole.tokens.items c.deref.result.now c.deref.ensures.value c.args.end c.args.old.now c.args.new.now c.in-Tokens.made _ c.in-Tokens.is c.in_ok-made.ensures)
    c.in_ok-ended-in-Tokens.ended c.in_ok-ended-in-Tokens.ensures
