use Rattle.cr_lex.proofs.Law.{keeps_lexing}
use Rattle.cr_lex.proofs.laws.renaming_keeps_lexing.Goals as goal

pub returns : goal.returns
returns c = keeps_lexing
