use Rattle.std.proofs.Common.{◌∙◌}
use Rattle.cr_run.specs.Seen.{goal_of_code}
use Rattle.cr_run.proofs.Decisions.{plans_of, goal_is}
use Rattle.cr_run.proofs.plan.plan_goal.Goals as goal
use Rattle.cr_run.proofs.Readings.{told_files, own_files}

pub returns-clause-decided : goal.returns-clause-decided
returns-clause-decided g c meaning files is told =
    plans_of files _ _ _ (goal_is meaning files (goal_of_code c.args.goal.now) c.in_ok-entries.entries.items (c.in_ok-entries.ensures.decided files told))
    (c.plan_entries.ensures.decided meaning files c.in_ok-entries.entries.items is (c.in_ok-entries.ensures.reads.same ∙ told) (c.in_ok-parted.ensures.units, c.in_ok-parted.ensures.skipped))

pub returns-clause-asked : goal.returns-clause-asked
returns-clause-asked g c files told =
    told_files (goal_of_code c.args.goal.now) files _ _ _ c.in_ok-entries.entries.items c.in_ok-parted.parted.units.items c.in_ok-entries.ensures.asked
    (c.in_ok-entries.ensures.decided files told) c.in_ok-parted.ensures.units c.plan_entries.ensures.asked

pub returns-clause-own : goal.returns-clause-own
returns-clause-own g c =
    own_files (goal_of_code c.args.goal.now) _ _ _ c.in_ok-entries.entries.items c.in_ok-parted.parted.units.items c.in_ok-entries.ensures.asked
    c.in_ok-entries.ensures.own c.in_ok-parted.ensures.units c.plan_entries.ensures.asked
