use Rattle.cr_small.proofs.KeyLaws.{names-its-key}
use Rattle.cr_small.proofs.laws.a_target_names_its_key.Goals as goal

pub returns : goal.returns
returns c = names-its-key c.tokens_stand_in_order.ensures
