use Rattle.cr_binding.proofs.Asking.{keeps_asked_name, keeps_denied_ask}
use Rattle.cr_binding.proofs.renaming_keeps_what_is_asked.Goals as goal

pub returns-clause-denoted : goal.returns-clause-denoted
returns-clause-denoted c = keeps_asked_name c.renaming_keeps_lookup.ensures.denotes

pub returns-clause-denied : goal.returns-clause-denied
returns-clause-denied c = keeps_denied_ask c.lookup_means.ensures c.renaming_keeps_an_ask.ensures
