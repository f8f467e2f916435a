use Rattle.std.proofs.Common.{◌∙◌}
use Rattle.cr_goal.specs.Seen.{goal_of_code}
use Rattle.cr_plan.proofs.Plans.{entries_are}
use Rattle.cr_plan.proofs.Few.{read_few}
use Rattle.cr_plan.proofs.Readings.{told_files, own_files}
use Rattle.cr_plan.proofs.plan.plan_goal.Goals as goal

pub plan_entries-requires : goal.plan_entries-requires
plan_entries-requires g c =
    record {
      few = read_few c.args.goal.now.units c.in_ok-entries.entries.items _ _ c.in_ok-entries.ensures.asked.more c.in_ok-parted.parted.units.items
          c.in_ok-entries.ensures.asked.gained c.in_ok-entries.ensures.own c.in_ok-parted.ensures.units;
    }

pub returns-clause-asked : goal.returns-clause-asked
returns-clause-asked g c files told =
    told_files (goal_of_code c.args.goal.now) files _ _ _ c.in_ok-entries.entries.items c.in_ok-parted.parted.units.items c.in_ok-entries.ensures.asked
    (c.in_ok-entries.ensures.decided files told) c.in_ok-parted.ensures.units c.plan_entries.ensures.asked

pub returns-clause-own : goal.returns-clause-own
returns-clause-own g c =
    own_files (goal_of_code c.args.goal.now) _ _ _ c.in_ok-entries.entries.items c.in_ok-parted.parted.units.items c.in_ok-entries.ensures.asked
    c.in_ok-entries.ensures.own c.in_ok-parted.ensures.units c.plan_entries.ensures.asked

pub returns-clause-decided : goal.returns-clause-decided
returns-clause-decided g c files told =
    entries_are files (goal_of_code c.args.goal.now) c.in_ok-entries.entries.items _ (c.in_ok-entries.ensures.decided files told)
    (c.plan_entries.ensures.decided files c.in_ok-entries.entries.items (c.in_ok-entries.ensures.reads.same ∙ told) (c.in_ok-parted.ensures.units, c.in_ok-parted.ensures.skipped))
