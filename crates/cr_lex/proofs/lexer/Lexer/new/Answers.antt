use Rattle.cr_lex.specs.Lexers.{left, IsIn}
use Rattle.cr_lex.proofs.Spots.{at_start-is, at_start-gives}
use Rattle.cr_lex.proofs.lexer.Lexer.new.Goals as goal

pub returns-clause-within : goal.returns-clause-within
unfolding IsIn
returns-clause-within c bytes = at_start-is bytes c.start.result c.start.ensures

pub returns-clause-left : goal.returns-clause-left
unfolding left
returns-clause-left c bytes = at_start-gives bytes c.start.result c.start.ensures
