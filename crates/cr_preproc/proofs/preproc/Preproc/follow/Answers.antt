use Rattle.std.proofs.Common.{◌≡◌, ◌+◌, subst, arith, refl, Some}
use Rattle.std.proofs.lemmas.List.{nil_from_length}
use Rattle.std.specs.Vec.{vec_len}
use Rattle.std.specs.Option.{MatchOption}
use Rattle.cr_preproc.specs.declared.preproc.Ending.TheVariants as ending
use Rattle.cr_phase4.specs.Search.{world_of}
use Rattle.cr_preproc.specs.Turning.{IsTurned}
use Rattle.cr_preproc.proofs.UnitTurns.{steps_turn, goes_turn, ends_turn, needs_turn, opens_turn, closes_turn}
use Rattle.cr_preproc.specs.Falling.{Falls}
use Rattle.cr_preproc.proofs.Falls.{ended_falls, goes_falls, opens_falls, closes_falls}
use Rattle.cr_preproc.proofs.preproc.Preproc.follow.Goals as goal

pub returns-in-Steps-clause-turn : goal.returns-in-Steps-clause-turn
returns-in-Steps-clause-turn c = λ files p f g same pf qf outer t. record {
  leads =
      steps_turn files p c.args.self.now f g same pf qf outer (subst (IsTurned (world_of files) p.unit files p.progress c.args.self.now.progress f g p.doing c.args.self.now.doing) c.in-Steps.is t);
}

pub returns-in-Goes-clause-turn : goal.returns-in-Goes-clause-turn
returns-in-Goes-clause-turn c = λ files p f g same pf qf outer t. record {
  leads =
      goes_turn files p c.args.self.now f g same pf qf outer (subst (IsTurned (world_of files) p.unit files p.progress c.args.self.now.progress f g p.doing c.args.self.now.doing) c.in-Goes.is t);
}

pub returns-in-Ends-clause-turn : goal.returns-in-Ends-clause-turn
returns-in-Ends-clause-turn c = λ files p f g same pf qf outer t. record {
  leads =
      ends_turn files p c.args.self.now f g same pf qf outer c.in-Ends.fault (subst (IsTurned (world_of files) p.unit files p.progress c.args.self.now.progress f g p.doing c.args.self.now.doing) c.in-Ends.is t);
}

pub returns-in_ok-open-in-Opens-clause-turn : goal.returns-in_ok-open-in-Opens-clause-turn
returns-in_ok-open-in-Opens-clause-turn c = λ files p f g same pf qf outer t. record {
  leads =
      opens_turn files p c.args.self.now f g same pf qf outer c.in-Opens.file c.open.new.self (c.in_ok-open-in-Opens.ensures g qf)
      (subst (IsTurned (world_of files) p.unit files p.progress c.args.self.now.progress f g p.doing c.args.self.now.doing) c.in-Opens.is t);
}

pub returns-in-Closes-clause-turn : goal.returns-in-Closes-clause-turn
returns-in-Closes-clause-turn c = λ files p f g same pf qf outer t. record {
  leads =
      closes_turn files p c.args.self.now f g same pf qf outer c.pop.result c.pop.new.self c.pop.ensures.items
      (λ e. nil_from_length c.pop.new.self.items (let k = subst (λ r. MatchOption r ((vec_len c.args.self.now.outer ≡ 0) × (vec_len c.pop.new.self ≡ 0)) (λ x. vec_len c.pop.new.self + 1 ≡ vec_len c.args.self.now.outer)) e c.pop.ensures.cases in omega (arith, k.1, c.pop.new.self.ok)))
      (subst (IsTurned (world_of files) p.unit files p.progress c.args.self.now.progress f g p.doing c.args.self.now.doing) c.in-Closes.is t);
}

pub returns-in-Needs-clause-turn : goal.returns-in-Needs-clause-turn
returns-in-Needs-clause-turn c = λ files p f g same pf qf outer t. record {
  leads =
      needs_turn files p c.args.self.now f g same pf qf outer c.in-Needs.paths (subst (IsTurned (world_of files) p.unit files p.progress c.args.self.now.progress f g p.doing c.args.self.now.doing) c.in-Needs.is t);
}

pub returns-in-Goes-clause-falls : goal.returns-in-Goes-clause-falls
returns-in-Goes-clause-falls c = λ p f g same pf qf h.
    goes_falls p c.args.self.now f g same pf qf (subst (Falls p.progress c.args.self.now.progress f g p.doing c.args.self.now.doing) c.in-Goes.is h)

pub returns-in-Ends-clause-falls : goal.returns-in-Ends-clause-falls
returns-in-Ends-clause-falls c = λ p f g same pf qf h.
    ended_falls p (record c.args.self.now { ending = Some (ending.Ill c.in-Ends.fault) }) (ending.Ill c.in-Ends.fault) refl

pub returns-in_ok-open-in-Opens-clause-falls : goal.returns-in_ok-open-in-Opens-clause-falls
returns-in_ok-open-in-Opens-clause-falls c = λ p f g same pf qf h.
    opens_falls p c.args.self.now f g same pf qf c.in-Opens.file c.open.new.self (c.in_ok-open-in-Opens.ensures g qf) (subst (Falls p.progress c.args.self.now.progress f g p.doing c.args.self.now.doing) c.in-Opens.is h)

pub returns-in-Closes-clause-falls : goal.returns-in-Closes-clause-falls
returns-in-Closes-clause-falls c = λ p f g same pf qf h.
    closes_falls p c.args.self.now f g same pf qf c.pop.result c.pop.new.self c.pop.ensures.items (subst (Falls p.progress c.args.self.now.progress f g p.doing c.args.self.now.doing) c.in-Closes.is h)
