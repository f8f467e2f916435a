use Rattle.cr_preproc_law.proofs.Finals.{finals_pass_of}
use Rattle.cr_preproc_law.proofs.final_tokens_come_from_text.Goals as goal

pub returns : goal.returns
returns c = finals_pass_of c.expansion_keeps_origins.ensures.uses
