use Rattle.cr_core.proofs.Facts.{all_facts}
use Rattle.cr_core.proofs.first_answers_bring_all_facts.Goals as goal

pub returns : goal.returns
returns g c = all_facts
