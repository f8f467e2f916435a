use Rattle.std.proofs.Common.{rules, ◌≡◌, ◌∙◌, sym, ap, subst, arith, None, Some, refl}
use Rattle.std.specs.Prelude.{Err}
use Rattle.cr_run.specs.Survey.{size_of, refusal_of_units}
use Rattle.cr_run.specs.Outcome.{of_target}
use Rattle.cr_run.specs.Refusals.{IfDecided, refused_of}
use Rattle.cr_run.specs.Seen.{goal_of_code}
use Rattle.cr_run.specs.Held.{IsFound, wanted_for}
use Rattle.cr_run.specs.Planning.{Plans}
use Rattle.cr_run.specs.declared.refusal.Refusal.TheVariants as refusal
use Rattle.cr_run.proofs.Decisions.{units_refuse, target_refuses}
use Rattle.cr_run.proofs.plan.plan_absent.Goals as goal

pub returns-in_err-read_units-clause-decided : goal.returns-in_err-read_units-clause-decided
returns-in_err-read_units-clause-decided g c meaning files es is told parted gone =
    let wanted = wanted_for (goal_of_code c.args.goal.now) None in
    let e : c.from_residual-in_err-read_units.result ≡ Err c.in_err-read_units.field-0.0 = search rules in
    let there = ap files c.in_ok-copy.ensures ∙ gone in
    let holds = c.in_ok-survey.ensures.holds meaning files wanted c.in_ok-copy.ensures (omega arith) (sym (ap size_of there)) (subst (λ o. IsFound meaning wanted c.in_ok-copy.field-0 o 0 c.unclear-found.result) (sym there) (c.unclear-found.ensures.found meaning wanted c.in_ok-copy.field-0)) in
    let settled = subst (λ us. IfDecided (refusal_of_units meaning files wanted.source wanted.new us ≡ Some (refused_of c.in_err-read_units.field-0.0)) c.in_err-read_units.field-0.0) (c.deref.ensures.value ∙ parted.0) (c.in_err-read_units.ensures.surveyed meaning files is told holds) in
    subst (Plans files (of_target meaning files (goal_of_code c.args.goal.now) es None)) (sym e) (units_refuse meaning files (goal_of_code c.args.goal.now) es None c.in_err-read_units.field-0.0 settled)

pub returns-clause-decided : goal.returns-clause-decided
returns-clause-decided g c meaning files es is told parted gone =
    let wanted = wanted_for (goal_of_code c.args.goal.now) None in
    let there = ap files c.in_ok-copy.ensures ∙ gone in
    let holds = c.in_ok-survey.ensures.holds meaning files wanted c.in_ok-copy.ensures (omega arith) (sym (ap size_of there)) (subst (λ o. IsFound meaning wanted c.in_ok-copy.field-0 o 0 c.unclear-found.result) (sym there) (c.unclear-found.ensures.found meaning wanted c.in_ok-copy.field-0)) in
    let none = subst (λ us. refusal_of_units meaning files wanted.source wanted.new us ≡ None) (c.deref.ensures.value ∙ parted.0) ((c.in_ok-read_units.ensures.surveyed meaning files is told holds).1) in
    target_refuses meaning files (goal_of_code c.args.goal.now) es None refusal.NoSymbol none refl
