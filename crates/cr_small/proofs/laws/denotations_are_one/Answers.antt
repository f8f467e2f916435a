use Rattle.cr_small.proofs.Braces.{denotes_one}
use Rattle.cr_small.proofs.laws.denotations_are_one.Goals as goal

pub returns : goal.returns
returns c = denotes_one
