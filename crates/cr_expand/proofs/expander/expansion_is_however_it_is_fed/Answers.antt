use Rattle.cr_expand.proofs.RunLaw.{gives_the_expansion}
use Rattle.cr_expand.proofs.expander.expansion_is_however_it_is_fed.Goals as goal

pub returns : goal.returns
returns c = gives_the_expansion
