use Rattle.cr_acting.specs.Binding.{source_by}
use Rattle.std.proofs.Common.{subst}
use Rattle.cr_sema.specs.Walking.{Steps}
use Rattle.cr_sema.proofs.walk.Walk.lead.Goals as goal

pub step-requires-clause-may : goal.step-requires-clause-may
step-requires-clause-may c =
    (c.requires.may.0, c.nodes.invariant c.requires.may.0 c.requires.may.1 c.requires.may.2, c.requires.may.2)

pub returns-then-done : goal.returns-then-done
returns-then-done c =
    λ es come next. subst (λ d. Steps (source_by c.args.words) es c.args.event c.step.new.self d) c.if-done.true (c.in_ok-done.ensures.steps es (c.nodes.invariant es come next) next)
