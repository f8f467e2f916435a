use Rattle.std.proofs.Common.{rules, ◌≡◌, length, map}
use Rattle.cr_goal.specs.Seen.{goal_of_code}
use Rattle.cr_plan.specs.Outcome.{offsets_of}
use Rattle.cr_plan.specs.Editing.{edit_over}
use Rattle.cr_plan.proofs.Plans.{plan_is}
use Rattle.cr_plan.proofs.plan.planned.Goals as goal

pub returns-clause-plan : goal.returns-clause-plan
returns-clause-plan c files es parted there =
    let aim = goal_of_code c.args.goal.now in
    let made = c.in_ok-edits.edits.items in
    let edits : made ≡ map (edit_over c.args.snapshot.now (length c.args.old.now) c.args.goal.now.new.now) (offsets_of c.args.snapshot.now c.args.places.now) = search rules in
    let units : c.len.result ≡ length c.args.entries.now.units.items = search rules in
    plan_is files aim es c.args.old.now c.args.snapshot.now c.args.places.now c.args.entries.now parted there _ made c.len.result edits units (search rules) (search rules)
