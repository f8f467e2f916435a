use Rattle.std.proofs.Common.{map}
use Rattle.std.specs.Prelude.{string_bytes}
use Rattle.cr_goal.specs.Seen.{goal_of_code}
use Rattle.cr_plan.proofs.Readings.{told_words}
use Rattle.cr_plan.proofs.plan.make_plan.Goals as goal

pub returns-clause-asked : goal.returns-clause-asked
returns-clause-asked g c files told =
    told_words (map string_bytes c.args.words.now) (goal_of_code c.in_ok-goal.goal) files c.in_ok-goal.ensures.goal _ _ (c.plan_goal.ensures.asked files told)
