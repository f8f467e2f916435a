use Rattle.cr_groups.proofs.Added.{adds_one}
use Rattle.cr_groups.proofs.adding.add_fact.Goals as goal

pub returns : goal.returns
returns c = adds_one c.facts_are_ordered.ensures _ _ _ c.in_ok-insert.ensures.ok
