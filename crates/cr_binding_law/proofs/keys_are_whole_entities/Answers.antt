use Rattle.cr_binding_law.proofs.Keyed.{entities_have_one_key, keys_are_entities, keys_are_free}
use Rattle.cr_binding_law.proofs.keys_are_whole_entities.Goals as goal

pub returns-clause-one_key : goal.returns-clause-one_key
returns-clause-one_key c = entities_have_one_key

pub returns-clause-entities : goal.returns-clause-entities
returns-clause-entities c = keys_are_entities

pub returns-clause-free : goal.returns-clause-free
returns-clause-free c = keys_are_free
