use Rattle.cr_preproc.specs.Falling.{turns_left}
use Rattle.cr_preproc.specs.Preprocs.{IsGoingOn}
use Rattle.cr_preproc.proofs.preproc.Preproc.go.Given as goal

abbrev pub invariant-turns : goal.invariant-turns
invariant-turns l = IsGoingOn l.snapshot l.initial.self l.self

abbrev pub decreases-turns : goal.decreases-turns
decreases-turns l = turns_left l.self
