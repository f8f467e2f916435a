use Rattle.cr_ll.specs.Guards.{seen, terminals}
use Rattle.cr_ll.proofs.Rows.{opened_advance}
use Rattle.cr_ll.proofs.state.advance.Goals as goal

pub returns-in-Takes-clause-moves : goal.returns-in-Takes-clause-moves
returns-in-Takes-clause-moves c =
    opened_advance (terminals c.args.names.now c.args.tokens.now) c.args.m.now c.open_by.new.m c.in-Some-Non.n c.in-Takes.k c.open_by.result c.top.result c.in-Some-Non.field-0 (seen c.lexeme_at.result) (seen c.lexeme_at-in-Some-Non.result) c.choose.result
    c.top.ensures c.in-Some-Non.is c.in-Some-Non.field-0-is c.lexeme_at.ensures c.lexeme_at-in-Some-Non.ensures c.choose.ensures.first c.in-Takes.is c.open_by.ensures
