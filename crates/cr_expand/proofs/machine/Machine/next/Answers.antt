use Rattle.std.proofs.Common.{◌≡◌, sym, subst, ◌∙◌, arith, inl, inr, ap, Ok, Err}
use Rattle.std.proofs.lemmas.Result.{err_from_is_err_and}
use Rattle.cr_expand.specs.Calls.{IsSearched}
use Rattle.cr_expand.proofs.Lefts.{after_step}
use Rattle.cr_expand.specs.declared.machine.ExpStep.TheVariants as step
use Rattle.cr_expand.specs.Machines.{IsTurnStep, IsTurnWanted}
use Rattle.cr_expand.proofs.Silent.{silent_more, faults_after, step_after, ahead_after, wanted_after, still_wants}
use Rattle.cr_expand.proofs.machine.Machine.next.Goals as goal

pub returns-in-Some-clause-step : goal.returns-in-Some-clause-step
returns-in-Some-clause-step c = λ more q.
    step_after c.args.names.now c.loop-step.names c.turn.new.names c.args.macros.now c.args.self.now c.loop-step.self c.turn.new.self c.in-Some.step c.loop-step.invariant.silent
    (subst (λ o. IsTurnWanted c.loop-step.names c.turn.new.names c.args.macros.now c.loop-step.self c.turn.new.self o) c.in-Some.is c.in_ok-step.ensures.wanted) more q
    (subst (λ o. IsTurnStep c.loop-step.names c.turn.new.names c.args.macros.now c.loop-step.self c.turn.new.self more o) c.in-Some.is (c.in_ok-step.ensures.step more (λ f. q (sym c.loop-step.invariant.silent.same.3 ∙ f)))).0

pub returns-in-Some-clause-ahead : goal.returns-in-Some-clause-ahead
returns-in-Some-clause-ahead c = λ more q.
    ahead_after c.args.names.now c.loop-step.names c.turn.new.names c.args.macros.now c.args.self.now c.loop-step.self c.turn.new.self c.in-Some.step c.loop-step.invariant.silent
    (subst (λ o. IsTurnWanted c.loop-step.names c.turn.new.names c.args.macros.now c.loop-step.self c.turn.new.self o) c.in-Some.is c.in_ok-step.ensures.wanted) more q
    (subst (λ o. IsTurnStep c.loop-step.names c.turn.new.names c.args.macros.now c.loop-step.self c.turn.new.self more o) c.in-Some.is (c.in_ok-step.ensures.step more (λ f. q (sym c.loop-step.invariant.silent.same.3 ∙ f)))).1

pub returns-in_err-step-clause-faults : goal.returns-in_err-step-clause-faults
returns-in_err-step-clause-faults c = λ more q.
    let p = err_from_is_err_and c.from_residual.result c.from_residual.ensures.1 in
    rw (p.1, p.2) (faults_after c.args.names.now c.loop-step.names c.args.macros.now c.args.self.now c.loop-step.self c.in_err-step.field-0.0 more c.loop-step.invariant.silent q (c.in_err-step.ensures.faults more (λ f. q (sym c.loop-step.invariant.silent.same.3 ∙ f))))

pub returns-in-Some-clause-wanted : goal.returns-in-Some-clause-wanted
returns-in-Some-clause-wanted c = wanted_after c.args.names.now c.loop-step.names c.turn.new.names c.args.macros.now c.args.self.now c.loop-step.self c.in-Some.step c.loop-step.invariant.silent (subst (λ o. IsTurnWanted c.loop-step.names c.turn.new.names c.args.macros.now c.loop-step.self c.turn.new.self o) c.in-Some.is c.in_ok-step.ensures.wanted)

pub loop-step-preserved : goal.loop-step-preserved
loop-step-preserved c = record {
  silent =
      silent_more c.args.names.now c.loop-step.names c.turn.new.names c.args.macros.now c.args.self.now c.loop-step.self c.turn.new.self c.loop-step.invariant.silent
      (λ more q. subst (λ o. IsTurnStep c.loop-step.names c.turn.new.names c.args.macros.now c.loop-step.self c.turn.new.self more o) c.in_default.is (c.in_ok-step.ensures.step more q))
      (subst (λ o. IsTurnWanted c.loop-step.names c.turn.new.names c.args.macros.now c.loop-step.self c.turn.new.self o) c.in_default.is c.in_ok-step.ensures.wanted) c.in_ok-step.ensures.machine c.in_ok-step.ensures.same;
  search = subst (IsSearched c.turn.new.names c.turn.new.self.slots.items) (sym c.go_on.ensures.search) c.in_ok-step.ensures.search;
  noted = after_step c.loop-step.names c.turn.new.names c.loop-step.self.slots.items c.turn.new.self.slots.items c.turn.new.ahead.groups.items c.go_on.new.self.groups.items c.len-before.result c.len.result c.in_ok-step.ensures.leaves c.in_ok-step.ensures.noted (omega (arith, c.len-before.ensures, c.loop-step.self.slots.ok)) (omega (arith, c.len.ensures, c.turn.new.self.slots.ok)) c.in_ok-go_on.ensures.groups;
  first = λ w. absurd (let h = c.in_ok-step.ensures.wants (still_wants c.args.names.now c.loop-step.names c.args.macros.now c.args.self.now c.loop-step.self c.loop-step.invariant.first w) in let no : ⊥ = cc in no);
}

pub returns-in-Some-clause-wants : goal.returns-in-Some-clause-wants
returns-in-Some-clause-wants c = λ w.
    let h = c.in_ok-step.ensures.wants (still_wants c.args.names.now c.loop-step.names c.args.macros.now c.args.self.now c.loop-step.self c.loop-step.invariant.first w) in
    inl (let e : Ok c.in-Some.step ≡ Ok step.Hungry = cc in e)

pub returns-in_err-step-clause-wants : goal.returns-in_err-step-clause-wants
returns-in_err-step-clause-wants c = λ w.
    let h = c.in_err-step.ensures.wants (still_wants c.args.names.now c.loop-step.names c.args.macros.now c.args.self.now c.loop-step.self c.loop-step.invariant.first w) in
    absurd (let no : ⊥ = cc in no)

pub returns-in_err-go_on-clause-wants : goal.returns-in_err-go_on-clause-wants
returns-in_err-go_on-clause-wants c = λ w.
    let p = err_from_is_err_and c.from_residual-in_err-go_on.result c.from_residual-in_err-go_on.ensures.1 in
    inr (p.1 ∙ ap Err p.2)
