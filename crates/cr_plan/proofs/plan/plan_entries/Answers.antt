use Rattle.std.proofs.Common.{rules, ◌≡◌, ◌∙◌, ap, sym, subst, inl, inr, List, ℕ}
use Rattle.std.specs.Prelude.{Ok, Err}
use Rattle.cr_goal.specs.Refusals.{IfDecided}
use Rattle.std.specs.List.{Contains}
use Rattle.cr_world.proofs.Histories.{read_both, read_wider}
use Rattle.cr_goal.specs.Seen.{goal_of_code}
use Rattle.cr_survey.specs.Batches.{LooksFor}
use Rattle.cr_plan.specs.Meant.{first_wanted, may_rename, meant}
use Rattle.cr_plan.specs.Making.{MayReadOf, AreOfTree}
use Rattle.cr_plan.specs.Planning.{Plans}
use Rattle.cr_plan.specs.Outcome.{by_name}
use Rattle.cr_plan.proofs.Plans.{first_is, refused_is, of_built_ins}
use Rattle.cr_plan.proofs.Known.{of_first}
use Rattle.cr_plan.proofs.plan.plan_entries.Goals as goal

pub returns-clause-asked : goal.returns-clause-asked
returns-clause-asked g c =
    let May : List ℕ → Type 0 = MayReadOf (goal_of_code c.args.goal.now) c.args.entries.now.units.items in
    read_both May _ _ _
    (read_wider (λ p. Contains (first_wanted (goal_of_code c.args.goal.now).sought) p) May (λ path h. inl h) _ _ c.in_ok-snapshot.ensures.asked)
    (read_wider (λ p. LooksFor c.args.entries.now.units.items p) May (λ path h. inr h) _ _ c.plan_units.ensures.asked)

pub returns-clause-decided : goal.returns-clause-decided
returns-clause-decided g c files es told parted =
    let aim = goal_of_code c.args.goal.now in
    let f = first_is files aim es c.in_ok-snapshot.snapshot c.plan_units.result (c.in_ok-snapshot.ensures.known files told) in
    let all : AreOfTree files c.in_ok-snapshot.snapshot = of_first files aim.sought c.in_ok-snapshot.snapshot f.0 (of_built_ins files) in
    let h = c.plan_units.ensures.decided files es (c.in_ok-snapshot.ensures.reads.same ∙ told) parted all in
    let m : may_rename aim.new (meant c.in_ok-snapshot.snapshot aim.sought) ≡ Ok c.in_ok-meant-2.meant = ap (may_rename aim.new) (sym c.in_ok-meant.ensures) ∙ c.in_ok-meant-2.ensures.named in
    f.1 (subst (λ r. Plans files (by_name files aim es c.in_ok-snapshot.snapshot r) c.plan_units.result) (sym m) h)

pub returns-in_err-meant-2-clause-decided : goal.returns-in_err-meant-2-clause-decided
returns-in_err-meant-2-clause-decided g c files es told parted =
    let aim = goal_of_code c.args.goal.now in
    let f = first_is files aim es c.in_ok-snapshot.snapshot c.from_residual-in_err-meant-2.result (c.in_ok-snapshot.ensures.known files told) in
    f.1 (refused_is files aim es c.in_ok-snapshot.snapshot _ c.from_residual-in_err-meant-2.result c.in_err-meant-2.field-0.0 (search rules)
    (subst (λ m. IfDecided (λ d. may_rename aim.new m ≡ Err d) c.in_err-meant-2.field-0.0) c.in_ok-meant.ensures c.in_err-meant-2.ensures.named))
