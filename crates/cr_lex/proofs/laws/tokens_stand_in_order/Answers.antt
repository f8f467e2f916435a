use Rattle.cr_lex.proofs.InOrder.{stands_in_order}
use Rattle.cr_lex.proofs.laws.tokens_stand_in_order.Goals as goal

pub returns : goal.returns
returns c = stands_in_order
