use Rattle.cr_core.proofs.Laws.{lawful}
use Rattle.cr_core.proofs.every_list_is_lawful.Goals as goal

pub returns : goal.returns
returns c = lawful
