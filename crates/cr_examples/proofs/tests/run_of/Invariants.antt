use Rattle.cr_preproc.specs.Preprocs.{IsPreproc}
use Rattle.cr_examples.proofs.tests.run_of.Given as goal

abbrev pub invariant-loop : goal.invariant-loop
invariant-loop l = IsPreproc l.snapshot l.preproc
