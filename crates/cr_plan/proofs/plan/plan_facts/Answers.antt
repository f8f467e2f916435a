use Rattle.std.proofs.Common.{rules, sym, subst, refl}
use Rattle.std.specs.Prelude.{Ok}
use Rattle.cr_goal.specs.Seen.{goal_of_code}
use Rattle.cr_plan.specs.Judgement.{IsJudged, named}
use Rattle.cr_plan.specs.Outcome.{rename_of}
use Rattle.cr_plan.specs.Making.{AreThere}
use Rattle.cr_plan.proofs.Known.{meant_there}
use Rattle.cr_plan.proofs.plan.plan_facts.Goals as goal

pub returns-clause-decided : goal.returns-clause-decided
returns-clause-decided c files es parted all =
    let aim = goal_of_code c.args.goal.now in
    let places = c.in_ok-places.places.items in
    let judged : IsJudged c.args.snapshot.now c.args.facts.now aim.root c.args.meant.now.old aim.new (named c.args.meant.now) (Ok places) = search rules in
    let there = meant_there files c.args.snapshot.now c.args.facts.now aim.root c.args.meant.now aim.new places all judged in
    let seen : AreThere files c.args.snapshot.now c.deref.result.now = subst (AreThere files c.args.snapshot.now) (sym c.deref.ensures.value) there in
    let plan = c.in_ok-plan.ensures.plan files es parted seen in (
      rename_of aim es c.args.meant.now.old c.args.snapshot.now places,
      (Ok places, judged, refl),
      search rules,
    )
