use Rattle.std.proofs.Common.{◌∙◌, inl, inr, refl, sym, ap, arith, Some, List, ℕ, length, ◌≤◌}
use Rattle.cr_run.specs.Seen.{goal_of_code}
use Rattle.cr_run.proofs.Decisions.{plans_of, text_is, absent_is}
use Rattle.cr_run.proofs.plan.plan_entries.Goals as goal
use Rattle.cr_world.proofs.Histories.{read_one, read_both, read_wider}
use Rattle.cr_run.specs.Units.{IsMain}
use Rattle.cr_run.specs.Outcome.{IsSourceOrMain}

pub returns-in-Bytes-clause-decided : goal.returns-in-Bytes-clause-decided
returns-in-Bytes-clause-decided g c meaning files es is told parted =
    let there = c.in-Bytes.ensures.file files told ∙ ap (λ (xs : List ℕ). Some xs) (sym c.deref.ensures.value) in
    let size : length c.deref.result.now ≤ 16777216 = omega (arith, ap length c.deref.ensures.value, c.in-Bytes.ensures.handed) in
    plans_of files _ _ _ (text_is meaning files (goal_of_code c.args.goal.now) es c.deref.result.now there size)
    (c.plan_source.ensures.decided meaning files es is (c.in-Bytes.ensures.same ∙ told) parted there)

pub returns-in-Absent-clause-decided : goal.returns-in-Absent-clause-decided
returns-in-Absent-clause-decided g c meaning files es is told parted =
    let gone = c.in-Absent.ensures.file files told in
    plans_of files _ _ _ (absent_is meaning files (goal_of_code c.args.goal.now) es gone)
    (c.plan_absent.ensures.decided meaning files es is (c.in-Absent.ensures.same ∙ told) parted gone)

pub returns-in-Bytes-clause-asked : goal.returns-in-Bytes-clause-asked
returns-in-Bytes-clause-asked g c =
    let May : List ℕ → Type 0 = λ path. IsSourceOrMain (goal_of_code c.args.goal.now) c.args.entries.now.units.items path in
    read_both May _ _ _ (read_one May _ _ c.args.goal.now.source _ c.in-Bytes.ensures.asked (inl refl))
    (read_wider (λ path. IsMain c.args.entries.now.units.items path) May (λ path h. inr h) _ _ c.plan_source.ensures.asked)

pub returns-in-Absent-clause-asked : goal.returns-in-Absent-clause-asked
returns-in-Absent-clause-asked g c =
    let May : List ℕ → Type 0 = λ path. IsSourceOrMain (goal_of_code c.args.goal.now) c.args.entries.now.units.items path in
    read_both May _ _ _ (read_one May _ _ c.args.goal.now.source _ c.in-Absent.ensures.asked (inl refl))
    (read_wider (λ path. IsMain c.args.entries.now.units.items path) May (λ path h. inr h) _ _ c.plan_absent.ensures.asked)
