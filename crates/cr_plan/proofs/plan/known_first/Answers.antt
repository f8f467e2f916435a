use Rattle.std.proofs.Common.{◌∙◌, subst, List, ℕ}
use Rattle.std.specs.List.{Contains}
use Rattle.cr_world.proofs.Histories.{read_wider}
use Rattle.cr_goal.specs.Seen.{sought_of_code}
use Rattle.cr_plan.specs.Meant as wanted
use Rattle.cr_plan.proofs.plan.known_first.Goals as goal

pub returns-in-Ok-clause-asked : goal.returns-in-Ok-clause-asked
returns-in-Ok-clause-asked g c =
    read_wider (λ p. Contains c.deref.result.now p) (λ p. Contains (wanted.first_wanted (sought_of_code c.args.sought.now)) p)
    (λ p h. subst (λ (l : List (List ℕ)). Contains l p) (c.deref.ensures.value ∙ c.in_ok-paths.ensures) h) _ _ c.in-Ok.ensures.asked

pub returns-clause-asked : goal.returns-clause-asked
returns-clause-asked g c =
    read_wider (λ p. Contains c.deref.result.now p) (λ p. Contains (wanted.first_wanted (sought_of_code c.args.sought.now)) p)
    (λ p h. subst (λ (l : List (List ℕ)). Contains l p) (c.deref.ensures.value ∙ c.in_ok-paths.ensures) h) _ _ c.in-Err.ensures.asked
