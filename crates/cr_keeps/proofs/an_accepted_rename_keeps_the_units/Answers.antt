use Rattle.cr_keeps.proofs.OverTrees.{keep_trees, edits_reach_trees}
use Rattle.cr_keeps.proofs.Whole.{verdicts_keep_units}
use Rattle.cr_keeps.proofs.an_accepted_rename_keeps_the_units.Goals as goal

pub returns-clause-files : goal.returns-clause-files
returns-clause-files c =
    verdicts_keep_units
    (record {
      lexing = c.renaming_keeps_lexing.ensures;
      order = c.tokens_stand_in_order.ensures;
      numbers = c.known_files_stay_known.ensures.numbers;
      numbered = c.each_number_is_of_one_file.ensures;
      goes_on = c.preprocessing_goes_on.ensures;
      preprocessing = c.renaming_keeps_preprocessing.ensures;
      traces = c.a_free_trace_does_no_harm.ensures;
      stand = c.final_tokens_stand_in_files.ensures;
      tokens7 = c.renaming_keeps_tokens.ensures;
      units = c.renaming_of_keys_keeps_units.ensures;
      consistent = c.units_are_consistent.ensures.lists;
      spelled = c.identifiers_are_spelled_as_what_they_mean.ensures;
      tell = c.keys_tell_names.ensures;
      move = c.keys_move.ensures;
      tests = c.an_accepted_verdict_tells_of_each_fact.ensures.keys;
      one_key = c.keys_are_whole_entities.ensures.one_key;
    })

pub returns-clause-trees : goal.returns-clause-trees
returns-clause-trees c = keep_trees c.preprocessing_goes_on.ensures (returns-clause-files c)

pub returns-clause-reach : goal.returns-clause-reach
returns-clause-reach c = edits_reach_trees
