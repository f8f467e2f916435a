use Rattle.cr_small.proofs.KeyLaws.{one-name}
use Rattle.cr_small.proofs.laws.entities_have_one_name.Goals as goal

pub returns : goal.returns
returns c = one-name c.tokens_stand_in_order.ensures
