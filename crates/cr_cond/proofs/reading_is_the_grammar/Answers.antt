use Rattle.cr_cond.proofs.Sound.{sound}
use Rattle.cr_cond.proofs.Complete.{complete}
use Rattle.cr_cond.proofs.reading_is_the_grammar.Goals as goal

pub returns : goal.returns
returns c = (sound, complete)
