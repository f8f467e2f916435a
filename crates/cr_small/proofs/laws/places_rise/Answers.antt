use Rattle.cr_small.proofs.KeyLaws.{places-rise}
use Rattle.cr_small.proofs.laws.places_rise.Goals as goal

pub returns : goal.returns
returns c = places-rise c.tokens_stand_in_order.ensures
