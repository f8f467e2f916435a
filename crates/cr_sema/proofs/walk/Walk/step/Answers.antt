use Rattle.cr_acting.specs.Binding.{source_by}
use Rattle.cr_sema.proofs.Coming.{opens_so, closes_so, led_so, unfit_so}
use Rattle.cr_sema.proofs.walk.Walk.step.Goals as goal

pub unreachable-requires : goal.unreachable-requires
unreachable-requires c =
    unfit_so c.events_fit.ensures.events c.events_fit.ensures.end (source_by c.args.words) c.args.self.now _ c.args.event _ c.in-Err-Unfit.field-0-is c.requires.may c.in-Err-Unfit.ensures.advances

pub returns-in_ok-open-in-Ok-Opens-clause-steps : goal.returns-in_ok-open-in-Ok-Opens-clause-steps
returns-in_ok-open-in-Ok-Opens-clause-steps c =
    λ es come next. opens_so (source_by c.args.words) es c.args.event c.args.self.now come _ _ c.in-Ok-Opens.node _ c.calls_are_seen.ensures.opens c.in-Ok-Opens.field-0-is c.in-Ok-Opens.ensures.advances c.in_ok-open-in-Ok-Opens.ensures

pub returns-in_ok-close-in-Ok-Closes-clause-steps : goal.returns-in_ok-close-in-Ok-Closes-clause-steps
returns-in_ok-close-in-Ok-Closes-clause-steps c =
    λ es come next. closes_so (source_by c.args.words) es c.args.event c.args.self.now come _ _ _ c.calls_are_seen.ensures.closes c.in-Ok-Closes.field-0-is c.in-Ok-Closes.ensures.advances c.in_ok-close-in-Ok-Closes.ensures

pub returns-in-Ok-Nothing-clause-steps : goal.returns-in-Ok-Nothing-clause-steps
returns-in-Ok-Nothing-clause-steps c =
    λ es come next. led_so (source_by c.args.words) es c.args.event c.args.self.now come _ _ c.in-Ok-Nothing.field-0-is c.in-Ok-Nothing.ensures.advances
