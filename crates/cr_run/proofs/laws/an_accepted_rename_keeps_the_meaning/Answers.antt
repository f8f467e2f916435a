use Rattle.cr_run.proofs.Keepings.{accepted-keeps}
use Rattle.cr_run.proofs.laws.an_accepted_rename_keeps_the_meaning.Goals as goal

pub returns : goal.returns
returns c = accepted-keeps c.renaming_keeps_the_meaning.ensures c.keys_move.ensures c.a_target_names_its_key.ensures
