use Rattle.cr_small.proofs.KeyKeeping.{keys-move}
use Rattle.cr_small.proofs.laws.keys_move.Goals as goal

pub returns : goal.returns
returns c = keys-move c.renaming_keeps_lexing.ensures c.tokens_stand_in_order.ensures
