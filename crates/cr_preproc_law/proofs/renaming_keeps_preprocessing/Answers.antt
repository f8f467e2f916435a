use Rattle.cr_preproc_law.proofs.Edited.{keeps_preprocessing}
use Rattle.cr_preproc_law.proofs.renaming_keeps_preprocessing.Goals as goal

pub returns : goal.returns
returns c =
    keeps_preprocessing c.renaming_keeps_lexing.ensures c.tokens_stand_in_order.ensures c.renaming_keeps_expansion.ensures c.renaming_keeps_each_use.ensures c.final_tokens_come_from_text.ensures
