use Rattle.cr_binding.proofs.Free.{mentions_are_free, new_tags_are_free, asks_are_free, declarations_are_free, all_are_free}
use Rattle.cr_binding.proofs.free_units_have_free_mentions.Goals as goal

pub returns-clause-mentions : goal.returns-clause-mentions
returns-clause-mentions c = mentions_are_free

pub returns-clause-tags : goal.returns-clause-tags
returns-clause-tags c = new_tags_are_free

pub returns-clause-asks : goal.returns-clause-asks
returns-clause-asks c = asks_are_free

pub returns-clause-declarations : goal.returns-clause-declarations
returns-clause-declarations c = declarations_are_free

pub returns-clause-all : goal.returns-clause-all
returns-clause-all c = all_are_free
