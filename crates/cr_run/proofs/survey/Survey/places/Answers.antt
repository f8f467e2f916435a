use Rattle.std.proofs.Common.{subst}
use Rattle.cr_small_facts.specs.Places.{ArePlaces}
use Rattle.cr_run.proofs.survey.Survey.places.Goals as goal

pub returns-clause-places : goal.returns-clause-places
returns-clause-places c n offsets at = subst (λ k. ArePlaces c.args.self.now.facts n k offsets) c.in_ok-key.ensures (c.in_ok-places.ensures.places n offsets at)
