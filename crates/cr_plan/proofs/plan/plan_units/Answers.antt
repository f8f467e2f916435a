use Rattle.std.proofs.Common.{rules, refl}
use Rattle.std.specs.Prelude.{Ok}
use Rattle.std.specs.FinSet.{empty}
use Rattle.cr_goal.specs.Seen.{goal_of_code}
use Rattle.cr_goal.specs.Units.{units_in}
use Rattle.cr_survey.specs.Batches.{AreSurveyed}
use Rattle.cr_plan.specs.Outcome.{by_survey, by_name}
use Rattle.cr_plan.proofs.Plans.{plans_by}
use Rattle.cr_plan.proofs.Known.{of_survey}
use Rattle.cr_plan.proofs.plan.plan_units.Goals as goal

pub returns-clause-decided : goal.returns-clause-decided
returns-clause-decided g c files es told parted all =
    let aim = goal_of_code c.args.goal.now in
    let known = c.survey.new.snapshot in
    let surveyed : AreSurveyed c.args.meant.now.old aim.new files (units_in es) c.args.snapshot.now empty (Ok (record { files = known; facts = c.in_ok-facts.facts })) = search rules in
    let after = of_survey files c.args.meant.now.old aim.new (units_in es) c.args.snapshot.now empty _ _ surveyed refl all in
    plans_by files (by_survey aim es c.args.meant.now (Ok (record { files = known; facts = c.in_ok-facts.facts }))) (by_name files aim es c.args.snapshot.now (Ok c.args.meant.now)) _
    (λ o h. (Ok (record { files = known; facts = c.in_ok-facts.facts }), surveyed, h))
    (c.plan_facts.ensures.decided files es parted after)
