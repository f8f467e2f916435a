use Rattle.std.proofs.Common.{arith}
use Rattle.cr_lex.proofs.Plain.{line_over, line_small}
use Rattle.cr_lex.proofs.lexer.line_from.Goals as goal

pub returns-clause-line : goal.returns-clause-line
returns-clause-line c = omega (arith, c.requires.spot, c.line_feeds.ensures, line_over c.args.bytes.now c.args.spot.counted c.args.at c.requires.counted)

pub returns-clause-small : goal.returns-clause-small
returns-clause-small c = omega (arith, c.requires.spot, c.line_feeds.ensures, line_over c.args.bytes.now c.args.spot.counted c.args.at c.requires.counted, line_small c.args.bytes.now c.args.at)
