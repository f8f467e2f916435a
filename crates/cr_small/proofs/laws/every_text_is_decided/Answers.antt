use Rattle.cr_small.proofs.KeyLaws.{decided}
use Rattle.cr_small.proofs.laws.every_text_is_decided.Goals as goal

pub returns : goal.returns
returns c = decided
