use Rattle.std.proofs.Common.{[], ◌∷◌}
use Rattle.cr_binding.specs.WellFormed.{terminals_of}
use Rattle.cr_walk.proofs.events_fit.Goals as goal

pub returns-clause-events : goal.returns-clause-events
returns-clause-events c = λ t es more next k old new g m sees run unfit.
    c.the_machine_fits.ensures.fit (terminals_of t) (next ∷ more) old new
    (c.the_machine_fits.ensures.waits (terminals_of t) es more next sees.steps old g m sees.runs run) unfit

pub returns-clause-end : goal.returns-clause-end
returns-clause-end c = λ t es k old new g m sees run ends unfit.
    c.the_machine_fits.ensures.fit (terminals_of t) [] old new
    (c.the_machine_fits.ensures.end (terminals_of t) es sees.steps old g m sees.runs run ends) unfit
