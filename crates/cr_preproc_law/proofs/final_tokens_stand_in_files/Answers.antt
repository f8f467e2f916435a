use Rattle.cr_preproc_law.proofs.Standing.{finals_stand}
use Rattle.cr_preproc_law.proofs.final_tokens_stand_in_files.Goals as goal

pub returns : goal.returns
returns c = finals_stand c.known_files_stay_known.ensures.numbers c.final_tokens_come_from_text.ensures
