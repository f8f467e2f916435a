use Rattle.cr_small.proofs.KeyKeeping.{renaming-keeps}
use Rattle.cr_small.proofs.laws.renaming_keeps_the_meaning.Goals as goal

pub returns : goal.returns
returns c = renaming-keeps c.renaming_keeps_lexing.ensures c.tokens_stand_in_order.ensures
