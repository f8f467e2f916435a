use Rattle.cr_small_facts.proofs.Told.{tells_own}
use Rattle.cr_small_facts.proofs.laws.a_text_tells_its_own_places.Goals as goal

pub returns : goal.returns
returns c = tells_own c.facts_are_ordered.ensures
