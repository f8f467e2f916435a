use Rattle.std.proofs.Common.{rules, ◌≡◌, sym, ap, subst, map}
use Rattle.std.specs.Prelude.{Err, string_bytes}
use Rattle.cr_run.specs.Goal.{goal_of, ◌>>=◌}
use Rattle.cr_run.specs.Outcome.{outcome, of_goal}
use Rattle.cr_run.specs.Planning.{Plans}
use Rattle.cr_run.proofs.Decisions.{plans_of, refused_first}
use Rattle.cr_run.proofs.plan.make_plan.Goals as goal
use Rattle.cr_run.specs.Seen.{goal_of_code}
use Rattle.cr_run.proofs.Readings.{told_words}

pub returns-in_err-goal-clause-decided : goal.returns-in_err-goal-clause-decided
unfolding outcome
returns-in_err-goal-clause-decided g c meaning files is told =
    let e : c.from_residual.result ≡ Err c.in_err-goal.field-0.0 = search rules in
    subst (Plans files (goal_of (map string_bytes c.args.words.now) >>= of_goal meaning files)) (sym e)
    (refused_first (goal_of (map string_bytes c.args.words.now)) (of_goal meaning files) c.in_err-goal.field-0.0 c.in_err-goal.ensures.goal)

pub returns-clause-decided : goal.returns-clause-decided
unfolding outcome
returns-clause-decided g c meaning files is told =
    plans_of files _ _ _ (sym (ap (λ s. s >>= of_goal meaning files) c.in_ok-goal.ensures.goal)) (c.plan_goal.ensures.decided meaning files is told)

pub returns-clause-asked : goal.returns-clause-asked
returns-clause-asked g c files told =
    told_words (map string_bytes c.args.words.now) (goal_of_code c.in_ok-goal.goal) files c.in_ok-goal.ensures.goal _ _ (c.plan_goal.ensures.asked files told)
