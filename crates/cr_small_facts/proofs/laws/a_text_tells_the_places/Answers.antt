use Rattle.cr_small_facts.proofs.Told.{tells_places}
use Rattle.cr_small_facts.proofs.laws.a_text_tells_the_places.Goals as goal

pub returns : goal.returns
returns c = tells_places c.facts_are_ordered.ensures c.places_rise.ensures c.entities_have_one_name.ensures
