use Rattle.cr_same_law.proofs.Asks.{same_meanings_tell_nothing}
use Rattle.cr_same_law.proofs.same_meanings_tell_nothing.Goals as goal

pub returns : goal.returns
returns c = same_meanings_tell_nothing c.lookup_means.ensures c.units_are_consistent.ensures.lists c.keys_are_whole_entities.ensures.entities c.asked_identifiers_are_used.ensures c.units_declare_tags.ensures
