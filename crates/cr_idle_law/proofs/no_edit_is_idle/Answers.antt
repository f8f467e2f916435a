use Rattle.cr_idle_law.proofs.Idle.{no_edit_is_idle}
use Rattle.cr_idle_law.proofs.no_edit_is_idle.Goals as goal

pub returns : goal.returns
returns c =
    no_edit_is_idle c.known_files_stay_known.ensures.numbers c.tokens_stand_in_order.ensures c.final_tokens_stand_in_files.ensures c.renaming_keeps_tokens.ensures
    c.identifiers_are_spelled_as_what_they_mean.ensures c.keys_tell_names.ensures c.facts_are_ordered.ensures
