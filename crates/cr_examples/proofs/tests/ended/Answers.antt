use Rattle.std.proofs.Common.{sym, subst, ◌∙◌}
use Rattle.cr_preproc.specs.Preprocs.{IsPreproc}
use Rattle.cr_examples.proofs.tests.ended.Goals as goal

pub run_of-requires : goal.run_of-requires
run_of-requires c = subst (IsPreproc c.args.snapshot.now) (sym (c.deref_mut.ensures.value ∙ c.in_ok-preproc.ensures.ok)) (c.in_ok-new.ensures.good c.args.snapshot.now)
